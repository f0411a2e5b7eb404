-- Programs as arrays of C, as `tcpdump -dd` prints them.
use Rattle.std.specs.Prelude.{ℕ, false, ◌-◌, List, [], ◌∷◌, ◌++◌, length, replicate, codes}
use Rattle.std.specs.List.{flat_map}
use Rattle.std.specs.Fmt.{decimal, digits}
use Rattle.bpfvm.specs.declared.insn.Insn.{Insn}

-- a number as C's `%x` prints it, and as `%08x` does
abbrev pub hex : ℕ → List ℕ
hex n = digits 16 false n

abbrev pub hex_of_8 : ℕ → List ℕ
hex_of_8 n = replicate (8 - length (hex n)) 48 ++ hex n

-- `{ 0x28, 0, 0, 0x0000000c },`
abbrev pub element_text : Insn → List ℕ
element_text i =
    codes "{ 0x" ++ (hex i.code ++ (codes ", " ++ (decimal i.jt ++ (codes ", " ++ (decimal i.jf ++ (codes ", 0x" ++ (hex_of_8 i.k ++ (codes " }," ++ 10 ∷ []))))))))

unfoldable pub array_of : List Insn → List ℕ
array_of insns = flat_map element_text insns
