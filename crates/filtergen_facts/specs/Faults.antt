-- How the refusal of a tree reads: its name.
use Rattle.std.specs.Prelude.{ℕ, List, codes}
use Rattle.filtergen_facts.specs.declared.refusal.Refusal.{Refusal}
use Rattle.filtergen_facts.specs.declared.refusal.Refusal.TheVariants.{TooLong, TooDeep, BadSnap, NoMemory}

abbrev pub refusal_text : Refusal → List ℕ
refusal_text TooLong = codes "TooLong"
refusal_text TooDeep = codes "TooDeep"
refusal_text BadSnap = codes "BadSnap"
refusal_text NoMemory = codes "NoMemory"
