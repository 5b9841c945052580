use Rattle.std.proofs.{Common.{◌≡◌, ◌+◌, ◌<◌, ◌≤◌, ℕ, true, nat_lt, codes, arith, refl}, lemmas.Bool.Decides.nat_tests}
use Rattle.ffs_volume.specs.{declared.Layout.Layout, Disk.Areas.cgstart, Messages.Texts.number_text}
use Rattle.ffs_volume.specs.Find.Owner.{part_text}
use Rattle.ffs_finding.proofs.owner.print_part.Goals as goal

of_super : (v : Layout) (c f : ℕ) → f < cgstart v c + v.cblkno →
    part_text v c f ≡ number_text (codes "superblock of group ") c (codes "\n")
unfolding part_text
of_super v c f h = let e : nat_lt f (cgstart v c + v.cblkno) ≡ true = grind (arith, nat_tests) in rw e refl

of_block : (v : Layout) (c f : ℕ) → cgstart v c + v.cblkno ≤ f → f < cgstart v c + v.iblkno →
    part_text v c f ≡ number_text (codes "group block of group ") c (codes "\n")
unfolding part_text
of_block v c f low h = grind arith

pub returns-then-fragment-start : goal.returns-then-fragment-start
returns-then-fragment-start g c =
    rw (of_super c.args.geometry.now.layout c.args.group c.args.fragment (omega (arith, c.cgstart-start.ensures)))
    (rw c.from.ensures at c.print_number.ensures)

pub returns-then-fragment-table : goal.returns-then-fragment-table
returns-then-fragment-table g c =
    rw (of_block c.args.geometry.now.layout c.args.group c.args.fragment (omega (arith, c.cgstart-start.ensures))
    (omega (arith, c.cgstart-start.ensures)))
    (rw c.from-then-fragment-table.ensures at c.print_number-then-fragment-table.ensures)
