-- `bpftap_program_init` meets its contract: a walk of its MIR, by hand.
use Rattle.std.proofs.Common.{ℕ, List, [], ◌∷◌, length, refl, w32}
use Rattle.std.proofs.raw_atomic.Walks.{proved}
use base.Fraction.{full_share}
use base.Logic.{sep, id⊢}
use base.Fml.{ftrue, flft}
use mir.Syntax.{named}
use prog.Wp.{WpFn}
use contract.Monad.{fact}
use contract.Running.{tables}
use types.Kit.{‵, raw, ◌⊛◌, some, later, prop, ◌$◌, ◌∵◌, !, qed, done, move, keep, drop, use1, use2, split, join, pick, await, regoal, show, suffices, frame, group}
use types.Run.{enter, of_opd, assigns, init, stop, no_more, and_then, returns}
use types.ByLocal.{alloc_all, pass_all, free_all, look_at, get, through, sets, lands_as}
use types.Logic.{sem}
use borrow.Table.OneValue.{part_in}
use denote.Exit.{yes}
use denote.Memory.{part_at}
use denote.Laws.{shows, Is}
use denote.Plain.{uint_Lawful}
use denote.Builtin.{u32}
use denote.RawPtr.{Ptr, RawPtr, block_ptr, ptr_val, lies_at, room_at, in_a_block, rawptr_vals, rawptr_Tells}
use denote.Slice.{ShrSlice, slice_val, shr_slice_vals, shr_slice_Tells, shr_slice_copy}
use denote.Signature.{plain, shr_slice_of}
use denote.Steps.{nothing, peeks, heard}
use denote.Triple.Call.{calls_at}
use denote.Triple.Clauses.{lasts, Lasts}
use denote.Triple.Spec.{triple_of}
use denote.Triple.Walked.{Stays, walk_of, says, stay_dropped, Goes-dropped, ends_at}
use denote.Triple.Table.{framed}
use Rattle.bpfvm.specs.contracts.program.Program.{the_row as R}
use Rattle.bpfvm.proofs.program.Program.TheLaws as laws
use Rattle.bpftap_c.proofs.insns.BpftapInsn.TheLaws as insn
use Rattle.bpfvm.specs.declared.insn.Insn.{Insn}
use Rattle.bpftap_c.specs.Insns.{insns_of}
use Rattle.bpftap_c.specs.Programs.{HasFault, IsPrepared, Prepares}
use Rattle.bpftap_c.specs.contracts.programs.fault_in as h
use Rattle.bpftap_c.proofs.programs.fault_in.Met as faults
use Rattle.bpftap_c.specs.contracts.programs.prepared as g
use Rattle.bpftap_c.proofs.programs.prepared.Met.{met}
use Rattle.bpftap_c.specs.contracts.programs.bpftap_program_init as f
use Rattle.bpftap_c.specs.contracts.insns.BpftapInsn.{the_row as I}
use Rattle.bpftap_c.proofs.programs.bpftap_program_init.Statement.{statement}
use Rattle.bpftap_c.proofs.programs.bpftap_program_init.Code as code
use Rattle.bpftap_c.proofs.Prepared.{prepares}

abbrev stayed : Stays f.ended.signature.params f.ended.kept
stayed = (stay_dropped _ yes, (stay_dropped _ yes, tt))

pub bpftap_program_init_spec : {M : Type 1} → statement M
bpftap_program_init_spec 𝓤 𝓛 𝓜 𝓡 wired =
    let c = f.clauses 𝓛 𝓜.mem 𝓡.returns in let W = walk_of 𝓛 f.ended stayed c in let 𝓣 = tables 𝓤 𝓛.H 𝓜 𝓡 𝓡.env in
    proved 𝓛 f.ended stayed c 𝓜 𝓡 (Goes-dropped 𝓛 1 (plain (λ _. RawPtr)) yes (λ κs x w. refl), (Goes-dropped 𝓛 1 (shr_slice_of (0 ∷ []) tt (plain (λ _. I))) yes (λ κs x w. refl), tt))
    f.Key.name code.function (code.unfolded 𝓤 𝓛.H 𝓜 𝓡 wired)
    (λ κs. (rawptr_vals, (shr_slice_vals, tt))) (λ κs. (rawptr_Tells, (shr_slice_Tells (named 0) κs.0 I, tt))) (λ κs qs bounds a none are.
    let κ = κs.0 in let q = qs.0 in let insns = a.1.0 in
    let y : Ptr → W.Ghost = λ p. ((κs, qs, bounds, (p, a.1), (rawptr_vals p, (shr_slice_vals insns, tt))), none) in
    qed 𝓛 (((‵ (flft κ q) ⊛ ‵ ftrue) ⊛ ‵ (RawPtr.own_val a.0 (rawptr_vals a.0)) ⊛ ‵ ((ShrSlice (named 0) κ I).own_val insns (shr_slice_vals insns)) ⊛ ‵ ftrue) ∷ (‵ (room_at R a.0)) ∷ []) ∵
    split ! $ split ! $ move ! (2 ∷ []) $ split ! $ move ! (1 ∷ []) $ split ! $
    -- [the instructions; nothing; the pointer; the token of κ; nothing; the room]
    keep ! (0 ∷ 3 ∷ 5 ∷ []) $ move ! (2 ∷ []) $
    in_a_block ! a.0 (λ p. room_at R p) (id⊢ 𝓤 _) (λ b o e.
    regoal ! (λ p. prop (WpFn 𝓤 𝓛.H 𝓣.C 𝓣.Λ code.function (ptr_val p ∷ slice_val insns.ref_ptr (length insns.now) ∷ []) (W.post (y p)))) e refl $
    enter ! _ _ _ _ _ $ alloc_all ! (λ l. pass_all ! refl ((tt, tt), ((tt, (tt, (record { fits = are.1.0.0.1.0 }, tt))), tt)) $
    -- let to = at as *mut Program;
    sets ! (of_opd ! (get ! refl)) refl (tt, tt) $
    -- [the room; the instructions; the token of κ]
    -- [the instructions, twice; the room; the token of κ]
    move ! (1 ∷ []) $ use1 𝓛 (‵ ((ShrSlice (named 0) κ I).own_val insns (shr_slice_vals insns)) ⊛ ‵ ((ShrSlice (named 0) κ I).own_val insns (shr_slice_vals insns)))
    ((shr_slice_copy 𝓛 (named 0) κ I insn.the_row_laws.shr_laws).twice insns (shr_slice_vals insns)) $ split ! $
    let F = triple_of 𝓛 h.signature (h.spec 𝓛 𝓜.mem 𝓡.returns) in
    let z : F.Ghost = (((κ, tt), (q, tt), tt, (insns, tt), (shr_slice_vals insns, tt)), tt) in
    nothing ! $ move ! (1 ∷ 0 ∷ []) $ join ! $ nothing ! $ move ! (4 ∷ 0 ∷ []) $ join ! $ join ! $ nothing ! $ move ! (1 ∷ 0 ∷ []) $ use2 𝓛 (raw (F.pre z)) (id⊢ 𝓤 _) $
    -- let fault = fault_in(insns);
    calls_at ! (framed 𝓤 𝓛.H 𝓜 (tables 𝓤 𝓛.H 𝓜 𝓡 𝓡.env)) F (faults.met 𝓤 𝓛 𝓜 𝓡 (code.calls-bpftap_c::programs::fault_in 𝓡.env wired)) z (and_then ! (get ! refl) (no_more !)) (λ v.
    use1 𝓛 (later (some (λ (r : ℕ). ((‵ (flft κ q) ⊛ ‵ ftrue) ⊛ ‵ (u32.own_val r (v ∷ []))) ⊛
    some (λ (ws : Lasts h.ended z.0.0 z.0.3). ‵ (lasts h.ended z.0.0 z.0.3 ws) ⊛ raw (fact 𝓤 (HasFault (insns_of insns.now) r)))))) (id⊢ 𝓤 _) $
    await ! tt $ pick ! (λ r. split ! $ split ! $ move ! (2 ∷ []) $ pick ! (λ ws. split ! $ drop ! $ heard ! _ (λ is.
    -- [the token of κ; the fault; the instructions; the room]
    move ! (1 ∷ []) $ peeks ! u32 (Is u32) (shows 𝓛 u32) r (v ∷ []) (λ ok. let number = ((uint_Lawful 𝓛 w32).typed r _ ok).0 in lands_as ! refl refl number $
    let G = triple_of 𝓛 g.signature (g.spec 𝓛 𝓜.mem 𝓡.returns) in
    let z' : G.Ghost = (((κ, tt), (q, tt), tt, (insns, tt), (shr_slice_vals insns, tt)), tt) in
    move ! (2 ∷ []) $ nothing ! $ move ! (1 ∷ 0 ∷ []) $ join ! $ move ! (2 ∷ 0 ∷ []) $ join ! $ nothing ! $ move ! (1 ∷ 0 ∷ []) $ use2 𝓛 (raw (G.pre z')) (id⊢ 𝓤 _) $
    -- prepared(insns)
    calls_at ! (framed 𝓤 𝓛.H 𝓜 (tables 𝓤 𝓛.H 𝓜 𝓡 𝓡.env)) G (met 𝓤 𝓛 𝓜 𝓡 (code.calls-bpftap_c::programs::prepared 𝓡.env wired)) z' (and_then ! (get ! refl) (no_more !)) (λ w.
    use1 𝓛 (later (some (λ (p : List Insn). ((‵ (flft κ q) ⊛ ‵ ftrue) ⊛ ‵ (R.own_val p (w ∷ []))) ⊛
    some (λ (ws : Lasts g.ended z'.0.0 z'.0.3). ‵ (lasts g.ended z'.0.0 z'.0.3 ws) ⊛ raw (fact 𝓤 (IsPrepared (insns_of insns.now) p)))))) (id⊢ 𝓤 _) $
    await ! tt $ pick ! (λ p. split ! $ split ! $ move ! (2 ∷ []) $ pick ! (λ ws'. split ! $ drop ! $ heard ! _ (λ is'.
    -- [the token of κ; the program; the fault; the room]
    move ! (1 ∷ []) $ peeks ! R (Is R) (shows 𝓛 R) p (w ∷ []) (λ ok'. let t = ((laws.the_row_laws.lawful 𝓛).typed p _ ok').0 in lands_as ! refl refl t $
    -- to.write(..)
    assigns ! (of_opd ! (get ! refl)) (through ! refl (stop !)) (init ! 3 refl t) $
    -- fault
    sets ! (of_opd ! (get ! refl)) refl number $
    returns ! (look_at ! 0 refl) $ free_all ! refl $
    move ! (3 ∷ 0 ∷ []) $ use2 𝓛 (‵ (part_at R full_share p b o)) (part_in 𝓛 R laws.the_row_laws.one full_share p b o w) $
    -- [the program; the token of κ; the fault]
    move ! (2 ∷ []) $
    suffices ! _ (ends_at 𝓛 f.ended stayed c (y (block_ptr b o)) v r (tt, (tt, tt)) (tt, (tt, tt))) $
    nothing ! $ nothing ! $ join ! $ nothing ! $ join ! $ move ! (3 ∷ []) $ group ! 3 $ frame ! $
    show ! (λ (program : List Insn). sep 𝓤 (sem 𝓛 (lies_at R full_share (block_ptr b o) program)) (fact 𝓤 (Prepares (insns_of insns.now) program r))) p $
    says ! (prepares (insns_of insns.now) p r is' is) $ done !)))))))))))))
