-- Captures that are read one after the other.
use Rattle.std.proofs.Common.{◌≡◌, ◌+◌, ℕ, List, [], ◌∷◌, ◌++◌, length, refl, ap, sym, ◌∙◌, arith, subst, unwrap_or, Option, Some, None, inl, inr}
use Rattle.std.proofs.lemmas.List.{append-nil, append_assoc}
use Rattle.listener.specs.Messages.{Arrival}
use Rattle.savefile.specs.declared.packet.Packet.{Packet}
use Rattle.replay.specs.Captures.{GivesPlaylist, GivesPackets, arrivals_from}
use Rattle.replay_types.specs.declared.report.InterfaceEnd.{InterfaceEnd}
use Rattle.replay_types.specs.declared.report.InterfaceEnd.TheVariants.{Clean}

module _ {S : Type 0} (left : S → Option (List ℕ)) (broken : S → ℕ) where
  -- Some captures were read, and `n` is the number of the next. Where none has ended the playlist, what the rest brings makes it
  -- whole; else the rest comes back as it is.
  abbrev pub PlaysSoFar : List S → List S → ℕ → List S → List Arrival → Option InterfaceEnd → Type 0
  PlaysSoFar all sources n rest playlist None =
      (total : ℕ) (others : List S) (more : List Arrival) (end : InterfaceEnd) → GivesPlaylist left broken total n rest others more end
      → GivesPlaylist left broken total 0 all (sources ++ others) (playlist ++ more) end
  PlaysSoFar all sources n rest playlist (Some end) = GivesPlaylist left broken (length playlist) 0 all (sources ++ rest) playlist end

  -- one capture more was read whole
  pub one-whole : (all sources : List S) (n : ℕ) (s t : S) (rest : List S) (playlist : List Arrival) (packets : List Packet)
      → PlaysSoFar all sources n (s ∷ rest) playlist None → GivesPackets left broken s t n 0 packets None
      → PlaysSoFar all (sources ++ t ∷ []) (n + 1) rest (playlist ++ arrivals_from n 0 packets) None
  one-whole all sources n s t rest playlist packets so ends = λ total others more end plays.
      subst (λ ts. GivesPlaylist left broken total 0 all ts ((playlist ++ arrivals_from n 0 packets) ++ more) end) (sym (append_assoc sources (t ∷ []) others))
      (subst (λ as'. GivesPlaylist left broken total 0 all (sources ++ t ∷ others) as' end) (sym (append_assoc playlist (arrivals_from n 0 packets) more))
      (so total (t ∷ others) (arrivals_from n 0 packets ++ more) end (packets, more, refl, inl (ends, plays))))

  -- one capture more was read, and ended the playlist
  pub one-ending : (all sources : List S) (n : ℕ) (s t : S) (rest : List S) (playlist : List Arrival) (packets : List Packet) (end : InterfaceEnd)
      → PlaysSoFar all sources n (s ∷ rest) playlist None
      → GivesPackets left broken s t n (length (playlist ++ arrivals_from n 0 packets)) packets (Some end)
      → PlaysSoFar all (sources ++ t ∷ []) (n + 1) rest (playlist ++ arrivals_from n 0 packets) (Some end)
  one-ending all sources n s t rest playlist packets end so ends =
      subst (λ ts. GivesPlaylist left broken (length (playlist ++ arrivals_from n 0 packets)) 0 all ts (playlist ++ arrivals_from n 0 packets) end) (sym (append_assoc sources (t ∷ []) rest))
      (so (length (playlist ++ arrivals_from n 0 packets)) (t ∷ rest) (arrivals_from n 0 packets) end
      (packets, [], sym (append-nil (arrivals_from n 0 packets)), inr (ends, refl, refl)))

  -- one capture more was read
  pub one-more : (all sources : List S) (n : ℕ) (s t : S) (rest : List S) (playlist : List Arrival) (packets : List Packet) (end : Option InterfaceEnd)
      → PlaysSoFar all sources n (s ∷ rest) playlist None
      → GivesPackets left broken s t n (length (playlist ++ arrivals_from n 0 packets)) packets end
      → PlaysSoFar all (sources ++ t ∷ []) (n + 1) rest (playlist ++ arrivals_from n 0 packets) end
  one-more all sources n s t rest playlist packets None so ends = one-whole all sources n s t rest playlist packets so ends
  one-more all sources n s t rest playlist packets (Some end) so ends = one-ending all sources n s t rest playlist packets end so ends

  -- a capture after the end came back as it is
  pub one-unread : (all sources : List S) (n m : ℕ) (s : S) (rest : List S) (playlist : List Arrival) (end : InterfaceEnd)
      → PlaysSoFar all sources n (s ∷ rest) playlist (Some end) → PlaysSoFar all (sources ++ s ∷ []) m rest playlist (Some end)
  one-unread all sources n m s rest playlist end so =
      subst (λ ts. GivesPlaylist left broken (length playlist) 0 all ts playlist end) (sym (append_assoc sources (s ∷ []) rest)) so

  -- all were read
  pub plays-whole : (all sources : List S) (n : ℕ) (rest : List S) (playlist : List Arrival) → PlaysSoFar all sources n rest playlist None → length rest ≡ 0
      → GivesPlaylist left broken (length playlist) 0 all sources playlist Clean
  plays-whole all sources n [] playlist so none =
      subst (λ ts. GivesPlaylist left broken (length playlist) 0 all ts playlist Clean) (append-nil sources)
      (subst (λ as'. GivesPlaylist left broken (length playlist) 0 all (sources ++ []) as' Clean) (append-nil playlist)
      (so (length playlist) [] [] Clean (refl, refl)))
  plays-whole all sources n (s ∷ rest) playlist so none = absurd (omega (arith, none))

  pub plays-ended : (all sources : List S) (n : ℕ) (rest : List S) (playlist : List Arrival) (end : InterfaceEnd) → PlaysSoFar all sources n rest playlist (Some end)
      → length rest ≡ 0 → GivesPlaylist left broken (length playlist) 0 all sources playlist end
  plays-ended all sources n [] playlist end so none = subst (λ ts. GivesPlaylist left broken (length playlist) 0 all ts playlist end) (append-nil sources) so
  plays-ended all sources n (s ∷ rest) playlist end so none = absurd (omega (arith, none))

  pub plays-all : (all sources : List S) (n : ℕ) (rest : List S) (playlist : List Arrival) (end : Option InterfaceEnd) → PlaysSoFar all sources n rest playlist end
      → length rest ≡ 0 → GivesPlaylist left broken (length playlist) 0 all sources playlist (unwrap_or end Clean)
  plays-all all sources n rest playlist None so none = plays-whole all sources n rest playlist so none
  plays-all all sources n rest playlist (Some end) so none = plays-ended all sources n rest playlist end so none

  -- the two, with the lists as a loop has them
  pub loop-unread : (all sources sources' : List S) (n m : ℕ) (s s' : S) (rest rest' : List S) (playlist : List Arrival) (end end' : Option InterfaceEnd) (e : InterfaceEnd)
      → PlaysSoFar all sources n rest playlist end → end ≡ Some e → rest ≡ s ∷ rest' → s' ≡ s → sources' ≡ sources ++ s' ∷ [] → end' ≡ end
      → PlaysSoFar all sources' m rest' playlist end'
  loop-unread all sources sources' n m s s' rest rest' playlist end end' e so some taken same given kept =
      subst (λ x. PlaysSoFar all sources' m rest' playlist x) (sym (kept ∙ some))
      (subst (λ ts. PlaysSoFar all ts m rest' playlist (Some e)) (sym (given ∙ ap (λ x. sources ++ x ∷ []) same))
      (one-unread all sources n m s rest' playlist e
      (subst (λ xs. PlaysSoFar all sources n xs playlist (Some e)) taken (subst (λ x. PlaysSoFar all sources n rest playlist x) some so))))

  pub loop-read : (all sources sources' : List S) (n m k arrived : ℕ) (s t t' : S) (rest rest' : List S) (playlist : List Arrival) (packets : List Packet)
      (end end' end'' : Option InterfaceEnd) → PlaysSoFar all sources n rest playlist end → end ≡ None → rest ≡ s ∷ rest' → t' ≡ t → sources' ≡ sources ++ t' ∷ []
      → k ≡ n → m ≡ n + 1 → arrived ≡ length (playlist ++ arrivals_from k 0 packets) → GivesPackets left broken s t k arrived packets end'' → end' ≡ end''
      → PlaysSoFar all sources' m rest' (playlist ++ arrivals_from k 0 packets) end'
  loop-read all sources sources' n m k arrived s t t' rest rest' playlist packets end end' end'' so none taken same given here next many ends kept =
      subst (λ x. PlaysSoFar all sources' m rest' (playlist ++ arrivals_from k 0 packets) x) (sym kept)
      (subst (λ ts. PlaysSoFar all ts m rest' (playlist ++ arrivals_from k 0 packets) end'') (sym (given ∙ ap (λ x. sources ++ x ∷ []) same))
      (subst (λ i. PlaysSoFar all (sources ++ t ∷ []) i rest' (playlist ++ arrivals_from k 0 packets) end'') (sym (next ∙ ap (λ i. i + 1) (sym here)))
      (one-more all sources k s t rest' playlist packets end''
      (subst (λ i. PlaysSoFar all sources i (s ∷ rest') playlist None) (sym here)
      (subst (λ xs. PlaysSoFar all sources n xs playlist None) taken (subst (λ x. PlaysSoFar all sources n rest playlist x) none so)))
      (subst (λ a. GivesPackets left broken s t k a packets end'') many ends))))
