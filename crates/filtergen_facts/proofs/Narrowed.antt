-- A protocol word, and after it a primitive of any protocol.
use Rattle.std.proofs.Common.{◌≡◌, ℕ, ◌==◌, false, Some, None, refl, ap, ◌∙◌, bit_and}
use Rattle.std.specs.Prelude.{IfSome}
use Rattle.filter_tree.specs.declared.tree.Direction.{Direction}
use Rattle.filter_tree.specs.declared.tree.Plain.{Plain}
use Rattle.filter_tree.specs.declared.tree.Plain.TheVariants as words
use Rattle.filter_meaning.specs.declared.verdict.Verdict.{Verdict}
use Rattle.filter_meaning.specs.declared.verdict.Verdict.TheVariants.{Yes, No, Abort}
use Rattle.filter_meaning.specs.Meaning.{Packet, Test, and_then, or_else, and_test, check, byte, half, is_type, is_protocol, plain_test, by_direction, in_any_net, has_port, has_ports, has_any_ports}
use Rattle.filtergen_facts.specs.Lists.{network_of, transport_of}
use Rattle.filtergen_facts.proofs.Members.{or-no, and-assoc}
use Rattle.filtergen_facts.proofs.Settling.{yes-both}
use Rattle.filtergen_facts.proofs.Apart.{other-number}

-- Three tests, each after one of its own, and before them one of these: where that is Yes, the other two are No.
first-of : (f g h u v w : Verdict) → (f ≡ Yes → g ≡ No) → (f ≡ Yes → h ≡ No) → and_then f (or_else (or_else (and_then f u) (and_then g v)) (and_then h w)) ≡ and_then f u
first-of Yes g h u v w second third = rw (second refl, third refl) (or-no (or_else u No) ∙ or-no u)
first-of No g h u v w second third = refl
first-of Abort g h u v w second third = refl

second-of : (f g h u v w : Verdict) → (g ≡ Yes → f ≡ No) → (g ≡ Yes → h ≡ No) → and_then g (or_else (or_else (and_then f u) (and_then g v)) (and_then h w)) ≡ and_then g v
second-of f Yes h u v w first third = rw (first refl, third refl) (or-no v)
second-of f No h u v w first third = refl
second-of f Abort h u v w first third = refl

third-of : (f g h u v w : Verdict) → (h ≡ Yes → f ≡ No) → (h ≡ Yes → g ≡ No) → and_then h (or_else (or_else (and_then f u) (and_then g v)) (and_then h w)) ≡ and_then h w
third-of f g Yes u v w first second = rw (first refl, second refl) refl
third-of f g No u v w first second = refl
third-of f g Abort u v w first second = refl

-- a packet has one type
pub net-with_fact : (word : Plain) (d : Direction) (a m : ℕ) (p : Packet) → IfSome (network_of word) (λ n. and_then (plain_test word p) (in_any_net None d a m p) ≡ in_any_net (Some n) d a m p)
net-with_fact words.Ip d a m p = first-of _ _ _ _ _ _ (other-number 0x0800 0x0806 (half 12 p) refl) (other-number 0x0800 0x8035 (half 12 p) refl)
net-with_fact words.Arp d a m p = second-of _ _ _ _ _ _ (other-number 0x0806 0x0800 (half 12 p) refl) (other-number 0x0806 0x8035 (half 12 p) refl)
net-with_fact words.Rarp d a m p = third-of _ _ _ _ _ _ (other-number 0x8035 0x0800 (half 12 p) refl) (other-number 0x8035 0x0806 (half 12 p) refl)
net-with_fact other d a m p = tt

-- and one protocol number
other-protocol : (m n : ℕ) (p : Packet) → (m == n) ≡ false → is_protocol m p ≡ Yes → is_protocol n p ≡ No
other-protocol m n p differ is =
    let both = yes-both (is_type 0x0800 p) (check (λ b. b == m) (byte 23 p)) is in
    ap (λ t. and_then t (check (λ b. b == n) (byte 23 p))) both.0 ∙ other-number m n (byte 23 p) differ both.1

abbrev asked_ports : Direction → ℕ → ℕ → Test
asked_ports d low high = and_test (λ p. check (λ b. bit_and b 0x1fff == 0) (half 20 p)) (by_direction d (has_port low high 0) (has_port low high 2))

-- which is asked for before whether this is a first fragment
ports-guarded : (n : ℕ) (d : Direction) (low high : ℕ) (p : Packet) → has_ports n d low high p ≡ and_then (is_protocol n p) (asked_ports d low high p)
ports-guarded n d low high p = and-assoc (is_protocol n p) (check (λ b. bit_and b 0x1fff == 0) (half 20 p)) (by_direction d (has_port low high 0) (has_port low high 2) p)

pub ports-with_fact : (word : Plain) (d : Direction) (low high : ℕ) (p : Packet)
    → IfSome (transport_of word) (λ t. and_then (plain_test word p) (has_any_ports None d low high p) ≡ has_any_ports (Some t) d low high p)
ports-with_fact words.Tcp d low high p = simp ports-guarded (first-of _ _ _ _ _ _ (other-protocol 6 17 p refl) (other-protocol 6 132 p refl))
ports-with_fact words.Udp d low high p = simp ports-guarded (second-of _ _ _ _ _ _ (other-protocol 17 6 p refl) (other-protocol 17 132 p refl))
ports-with_fact words.Sctp d low high p = simp ports-guarded (third-of _ _ _ _ _ _ (other-protocol 132 6 p refl) (other-protocol 132 17 p refl))
ports-with_fact other d low high p = tt
