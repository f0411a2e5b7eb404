-- The parts of an address, from the left.
use Rattle.std.proofs.Common.{◌≡◌, ◌==◌, ℕ, ◌+◌, ◌<◌, ◌≤◌, List, [], ◌∷◌, ◌++◌, Option, Some, None, length, take, drop, set, get_or, refl, sym, ap, ◌∙◌, arith, append_assoc, suc}
use Rattle.std.specs.Prelude.{option_map, option_and_then}
use Rattle.std.specs.List.{slice_split}
use Rattle.std.proofs.lemmas.Bool.{ne_eqb}
use Rattle.std.proofs.lemmas.List.{at_drop_more, at_drop_all, take_more_set, append-nil}
use Rattle.std.proofs.Math.ListN.{length-set}
use Rattle.filterlang.specs.Numbers.{octet, octets, ethernet, dotted}

-- numbers before those that are still to be read
abbrev pub onto : List ℕ → Option (List ℕ) → Option (List ℕ)
onto front rest = option_map (λ ns. front ++ ns) rest

-- the parts between the marks
abbrev pub parts_of : ℕ → List ℕ → List (List ℕ)
parts_of mark run = slice_split (λ b. b == mark) run

-- count parts are read into the front of numbers
pub record Read (base most mark : ℕ) (run numbers : List ℕ) (count turns : ℕ) : Type 0 where
  pub each_turn : count ≡ turns
  pub within : count ≤ 6
  pub six : length numbers ≡ 6
  pub so_far : octets base most (parts_of mark run) ≡ onto (take count numbers) (octets base most (drop count (parts_of mark run)))

-- numbers before one before the others
onto-onto : (front : List ℕ) (n : ℕ) (rest : Option (List ℕ)) → onto front (onto (n ∷ []) rest) ≡ onto (front ++ n ∷ []) rest
onto-onto front n None = refl
onto-onto front n (Some ns) = ap Some (sym (append_assoc front (n ∷ []) ns))

-- an octet goes before those of the other parts
octets-cons : (base most : ℕ) (part : List ℕ) (parts : List (List ℕ)) (n : ℕ) → octet base most part ≡ Some n → octets base most (part ∷ parts) ≡ onto (n ∷ []) (octets base most parts)
octets-cons base most part parts n is = rw is refl

-- a part that is none spoils all
octets-none : (base most : ℕ) (part : List ℕ) (parts : List (List ℕ)) → octet base most part ≡ None → octets base most (part ∷ parts) ≡ None
octets-none base most part parts is = rw is refl

-- as many numbers as parts
pub length-octets : (base most : ℕ) (parts : List (List ℕ)) (ns : List ℕ) → octets base most parts ≡ Some ns → length ns ≡ length parts
length-octets base most [] ns e = ap length (cc_some e) where
  cc_some : Some [] ≡ Some ns → ns ≡ []
  cc_some e = cc
length-octets base most (part ∷ parts) ns e = at_octet (octet base most part) (octets base most parts) refl (length-octets base most parts) e where
  at_octet : (o : Option ℕ) (os : Option (List ℕ)) → octets base most parts ≡ os → ((ms : List ℕ) → octets base most parts ≡ Some ms → length ms ≡ length parts) → option_and_then (λ n. option_map (λ ms. n ∷ ms) os) o ≡ Some ns → length ns ≡ length (part ∷ parts)
  at_octet None os is shorter e = absurd cc
  at_octet (Some n) None is shorter e = absurd cc
  at_octet (Some n) (Some ms) is shorter e = let same : ns ≡ n ∷ ms = cc in let rest : length ms ≡ length parts = shorter ms is in rw same (ap suc rest)

module _ {base most mark : ℕ} {run numbers : List ℕ} {count turns : ℕ} (read : Read base most mark run numbers count turns) where
  -- one part more
  pub read_more : (part : List ℕ) (n : ℕ) → turns < length (parts_of mark run) → part ≡ get_or (parts_of mark run) turns part → octet base most part ≡ Some n → count < 6 → Read base most mark run (set numbers count n) (count + 1) (turns + 1)
  read_more part n inside here is room = record {
    each_turn = omega (arith, read.each_turn);
    within = omega arith;
    six = length-set numbers count n ∙ read.six;
    so_far =
        let at_count : part ≡ get_or (parts_of mark run) count part = here ∙ ap (λ i. get_or (parts_of mark run) i part) (sym read.each_turn) in
        let next = at_drop_more (octets base most) (parts_of mark run) count part (omega (arith, read.each_turn)) in
        let fits : count < length numbers = omega (arith, read.six) in
        read.so_far
        ∙ ap (onto (take count numbers)) (next ∙ ap (λ p. octets base most (p ∷ drop (count + 1) (parts_of mark run))) (sym at_count) ∙ octets-cons base most part (drop (count + 1) (parts_of mark run)) n is)
        ∙ onto-onto (take count numbers) n (octets base most (drop (count + 1) (parts_of mark run)))
        ∙ ap (λ front. onto front (octets base most (drop (count + 1) (parts_of mark run)))) (sym (take_more_set numbers count n fits));
  }

  -- a part that is no octet
  pub read_none : (part : List ℕ) → turns < length (parts_of mark run) → part ≡ get_or (parts_of mark run) turns part → octet base most part ≡ None → octets base most (parts_of mark run) ≡ None
  read_none part inside here is =
      let at_count : part ≡ get_or (parts_of mark run) count part = here ∙ ap (λ i. get_or (parts_of mark run) i part) (sym read.each_turn) in
      read.so_far
      ∙ ap (onto (take count numbers)) (at_drop_more (octets base most) (parts_of mark run) count part (omega (arith, read.each_turn)) ∙ ap (λ p. octets base most (p ∷ drop (count + 1) (parts_of mark run))) (sym at_count) ∙ octets-none base most part (drop (count + 1) (parts_of mark run)) is)

  -- more than six parts
  pub read_too_many : (ns : List ℕ) → turns < length (parts_of mark run) → count ≡ 6 → octets base most (parts_of mark run) ≡ Some ns → 6 < length ns
  read_too_many ns inside full e = omega (arith, length-octets base most (parts_of mark run) ns e, read.each_turn)

  -- no part is left
  pub read_all : turns ≡ length (parts_of mark run) → octets base most (parts_of mark run) ≡ Some (take count numbers)
  read_all over = read.so_far ∙ ap (onto (take count numbers)) (at_drop_all (octets base most) (parts_of mark run) count (omega (arith, read.each_turn))) ∙ ap Some (append-nil (take count numbers))

-- more than six numbers are no address of either kind
pub ethernet-long : (ns : List ℕ) → 6 < length ns → ethernet ns ≡ None
ethernet-long ns h = rw (ne_eqb (length ns) 6 (λ e. omega arith)) refl

-- the same of dotted ones
dotted-long : (ns : List ℕ) → 6 < length ns → dotted ns ≡ None
dotted-long [] h = refl
dotted-long (a ∷ []) h = refl
dotted-long (a ∷ b ∷ []) h = absurd (omega arith)
dotted-long (a ∷ b ∷ c ∷ []) h = absurd (omega arith)
dotted-long (a ∷ b ∷ c ∷ d ∷ []) h = absurd (omega arith)
dotted-long (a ∷ b ∷ c ∷ d ∷ e ∷ ns) h = refl

-- more than six parts are no Ethernet address
pub no_ethernet : (o : Option (List ℕ)) → ((ns : List ℕ) → o ≡ Some ns → 6 < length ns) → option_and_then ethernet o ≡ None
no_ethernet None long = refl
no_ethernet (Some ns) long = ethernet-long ns (long ns refl)

-- nor a dotted one
pub no_dotted : (o : Option (List ℕ)) → ((ns : List ℕ) → o ≡ Some ns → 6 < length ns) → option_and_then dotted o ≡ None
no_dotted None long = refl
no_dotted (Some ns) long = dotted-long ns (long ns refl)
