use Rattle.filtergen_code.proofs.Seeking.{passes-none, passes-load}
use Rattle.filtergen_code.proofs.code.Code.exits_after_load.Goals as goal

pub returns-in-At : goal.returns-in-At
returns-in-At c =
    let passed = rw c.load_insn.ensures at c.exits_after.ensures in
    rw c.in-At.is (passes-load c.in-At.field passed.yes passed.no)

pub returns-in_default : goal.returns-in_default
returns-in_default c = passes-none c.args.location c.args.self.now c.requires
