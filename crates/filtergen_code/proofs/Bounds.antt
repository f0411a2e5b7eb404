-- How long code may be, by the weight of its tree.
use Rattle.std.proofs.Common.{◌≡◌, ◌+◌, ◌≤◌, true, arith}
use Rattle.filter_tree.specs.Trees.{Amount, number, wire_length, minus, binary, accessor}
use Rattle.filtergen_facts.specs.Weights.{value_weight}
use Rattle.filtergen_facts.specs.Facts.{begins_with_ip}
use Rattle.filtergen_code.specs.Parts.{value_cost, layers_cost, relation_cost}

-- each leaf takes an instruction, and there is one more of them than of binary operators
value_bound : (v : Amount) → value_cost v + layers_cost v ≤ value_weight v + 1
value_bound (number n) = omega arith
value_bound wire_length = omega arith
value_bound (minus v) = omega (arith, value_bound v)
value_bound (binary o v w) = omega (arith, value_bound v, value_bound w)
value_bound (accessor layer v size) = omega (arith, value_bound v)

-- a relation takes no more instructions than it weighs, with those that renew its exits
pub relation_bound : (v w : Amount) → 2 + relation_cost v w ≤ 10 + (value_weight v + value_weight w)
relation_bound v w = omega (arith, value_bound v, value_bound w)

-- and where its first accessor is of IPv4, no more with four beside
value_bound_ip : (v : Amount) → begins_with_ip v ≡ true → value_cost v + layers_cost v + 4 ≤ value_weight v + 1
value_bound_ip (number n) is = absurd cc
value_bound_ip wire_length is = absurd cc
value_bound_ip (minus v) is = omega (arith, value_bound_ip v is)
value_bound_ip (binary o v w) is = omega (arith, value_bound_ip v is, value_bound w)
value_bound_ip (accessor layer v size) is = omega (arith, value_bound v)

pub relation_bound_ip : (v w : Amount) → begins_with_ip v ≡ true → relation_cost v w + 4 ≤ 8 + (value_weight v + value_weight w)
relation_bound_ip v w is = omega (arith, value_bound_ip v is, value_bound w)

-- each value takes an instruction
pub value_positive : (v : Amount) → 1 ≤ value_cost v
value_positive (number n) = omega arith
value_positive wire_length = omega arith
value_positive (minus v) = omega arith
value_positive (binary o v w) = omega arith
value_positive (accessor layer v size) = omega arith
