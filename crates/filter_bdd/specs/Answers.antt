-- Answers of a filter, and operations on them.
use Rattle.std.specs.Prelude.{ℕ, ◌==◌, if◌then◌else◌, nat_le, not, Bool, true, false, Option, Some, None, min, max}
use Rattle.filter_bdd.specs.declared.answer.Answer.{Answer}
use Rattle.filter_bdd.specs.declared.answer.Answer.TheVariants.{Final, Never}
use Rattle.filter_bdd.specs.declared.answer.Operation.{Operation}
use Rattle.filter_bdd.specs.declared.answer.Operation.TheVariants.{And, Or, Xor, Ite, Agree, Apart, Cut}

-- an answer, where `need` captured bytes are needed too
abbrev pub after : ℕ → Answer → Answer
after need Never = Never
after need (Final more says) = Final (max need more) says

-- `and` of two answers: a No ends it, and after a Yes the second is wanted too
abbrev pub and_answer : Answer → Answer → Answer
and_answer Never second = Never
and_answer (Final need false) second = Final need false
and_answer (Final need true) second = after need second

-- `or` of two answers: a Yes ends it
abbrev pub or_answer : Answer → Answer → Answer
or_answer Never second = Never
or_answer (Final need true) second = Final need true
or_answer (Final need false) second = after need second

-- whether one says Yes and the other No
abbrev pub differs : Bool → Bool → Bool
differs true says = not says
differs false says = says

abbrev pub xor_answer : Answer → Answer → Answer
xor_answer Never second = Never
xor_answer (Final need says) Never = Never
xor_answer (Final need says) (Final more other) = Final (max need more) (differs says other)

-- the second answer where the first says Yes, and the third where it says No
abbrev pub ite_answer : Answer → Answer → Answer → Answer
ite_answer Never second third = Never
ite_answer (Final need true) second third = after need second
ite_answer (Final need false) second third = after need third

-- from how many captured bytes on a packet is accepted, if it is at any number
abbrev pub accepted_from : Answer → Option ℕ
accepted_from Never = None
accepted_from (Final need false) = None
accepted_from (Final need true) = Some need

-- whether two answers accept from the same number of captured bytes on: No where they do not, with as many as the first to accept needs
abbrev pub agree_from : Option ℕ → Option ℕ → Answer
agree_from None None = Final 0 true
agree_from None (Some m) = Final m false
agree_from (Some n) None = Final n false
agree_from (Some n) (Some m) = if n == m then Final 0 true else Final (min n m) false

-- whether two answers are never Yes and No: No where they are, with as many captured bytes as both need
abbrev pub apart_answer : Answer → Answer → Answer
apart_answer Never second = Final 0 true
apart_answer (Final need says) Never = Final 0 true
apart_answer (Final need true) (Final more true) = Final 0 true
apart_answer (Final need true) (Final more false) = Final (max need more) false
apart_answer (Final need false) (Final more true) = Final (max need more) false
apart_answer (Final need false) (Final more false) = Final 0 true

-- What is left of an answer by a comparison with the length on the wire, which says No where the packet is shorter than `size` bytes: a No
-- that needs as many is Yes, since they cannot be captured.
abbrev pub cut_answer : Answer → Answer → Answer
cut_answer Never second = second
cut_answer (Final size true) second = second
cut_answer (Final size false) Never = Never
cut_answer (Final size false) (Final need true) = Final need true
cut_answer (Final size false) (Final need false) = if nat_le size need then Final 0 true else Final need false

-- an operation on answers
abbrev pub outcome : Operation → Answer → Answer → Answer → Answer
outcome And a b c = and_answer a b
outcome Or a b c = or_answer a b
outcome Xor a b c = xor_answer a b
outcome Ite a b c = ite_answer a b c
outcome Agree a b c = agree_from (accepted_from a) (accepted_from b)
outcome Apart a b c = apart_answer a b
outcome Cut a b c = cut_answer a b

-- an operation on two answers
abbrev pub joined : Operation → Answer → Answer → Answer
joined o a b = outcome o a b b
