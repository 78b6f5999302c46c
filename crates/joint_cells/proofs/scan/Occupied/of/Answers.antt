-- `Occupied::of` meets its contract: the level's first word is at hand, the others are to come.
use Rattle.std.proofs.Common.{◌≡◌, ◌∙◌, sym, refl, length, arith}
use Rattle.joint_pixel.specs.Store.{words_per}
use Rattle.joint_cells.specs.Scan.{words_of}
use Rattle.joint_cells.proofs.ScanLaws.{left-list, left-none, bit-past}
use Rattle.joint_cells.proofs.scan.Occupied.of.Goals as goal

pub returns-in-Some-clause-all : goal.returns-in-Some-clause-all
returns-in-Some-clause-all c =
    let e : c.div_ceil-k.result ≡ words_per c.args.m = omega arith in
    left-list (record { base = 0; rest = c.in-Some.word.now; words = c.in-Some.others }) _ refl (rw e at c.in-Some.ensures.cases.0)

pub returns-in-None-clause-all : goal.returns-in-None-clause-all
returns-in-None-clause-all c = λ g.
    let e : c.div_ceil-k.result ≡ words_per c.args.m = omega arith in
    let none : length (words_of c.args.m c.args.level.0 c.args.words.now) ≡ 0 = rw e at c.in-None.ensures.cases in
    left-none _ refl c.in-None.ensures.cases g ∙ sym (bit-past (words_of c.args.m c.args.level.0 c.args.words.now) g (omega arith))
