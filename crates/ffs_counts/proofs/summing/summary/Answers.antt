use Rattle.std.proofs.Common.{◌≡◌, ◌∙◌, arith, ap, length, refl, rules, slice_index, Result, [], ◌∷◌}
use Rattle.ffs_volume.{specs.Report.Whole.{file_count, claimed_count, summary_of}, proofs.Results.fails_with}
use Rattle.ffs_maps.specs.Bits.{bits_of}
use Rattle.ffs_image.specs.Known.{ForBytes}
use Rattle.ffs_workspace.specs.Holds.{HoldsBlockCheck}
use Rattle.ffs_counts.{specs.Summary.SaysSummary, proofs.{Classes.files_are, ReservedCount.used_are}}
use Rattle.ffs_counts.proofs.summing.summary.Goals.{After-summary_line}
use Rattle.ffs_report.specs.{Progress.{Progress, Says}, declared.fault.RunFault.RunFault}
use Rattle.ffs_layout.specs.Super.{superblock_in}
use Rattle.ffs_counts.proofs.summing.summary.Given as given
use Rattle.ffs_counts.proofs.summing.summary.Goals as goal

-- the counts are those of the image
files_right : (g : given.Over) (c : After-summary_line g) →
    ForBytes (λ bytes. HoldsBlockCheck c.args.superblock.now.geometry.layout bytes c.args.workspace.now)
    (λ bytes. c.file_count-files.result ≡ file_count c.args.superblock.now.geometry.layout bytes)
files_right g c bytes k =
    let kinds = c.deref.result.now in
    files_are c.args.superblock.now.geometry.layout bytes kinds c.file_count-files.result (length kinds)
    c.file_count-files.ensures (search (rules, arith))
    (λ x. ap (λ ks. slice_index ks x) c.deref.ensures.value ∙ k.kinds x)

claimed_right : (g : given.Over) (c : After-summary_line g) →
    ForBytes (λ bytes. HoldsBlockCheck c.args.superblock.now.geometry.layout bytes c.args.workspace.now)
    (λ bytes. c.claimed_count-claimed.result ≡ claimed_count c.args.superblock.now.geometry.layout bytes)
claimed_right g c bytes k = used_are c.args.superblock.now.geometry.layout bytes (bits_of c.args.workspace.now.used)
    c.claimed_count-claimed.result (c.claimed_count-claimed.ensures c.requires.used) k.used

says : {T : Type 0} (g : given.Over) (c : After-summary_line g) {old new : Progress} {r : Result T RunFault} →
    let s = superblock_in c.args.superblock.now in
    Says old new (summary_of s c.file_count-files.result c.claimed_count-claimed.result ∷ []) r →
    SaysSummary s c.args.workspace.now old new r
says g c said = record {
  files = c.file_count-files.result;
  claimed = c.claimed_count-claimed.result;
  files_counted = grind arith;
  claimed_counted = c.claimed_count-claimed.ensures c.requires.used;
  files_right = files_right g c;
  claimed_right = claimed_right g c;
  said = said;
}

pub returns-in_err-say : goal.returns-in_err-say
returns-in_err-say g c = rw (fails_with _ c.from_residual.ensures.1) (record {
  faults = λ device. refl;
  text = says g (goal.at.returns-in_err-say g c).After-summary_line (rw c.summary_line.ensures at c.in_err-say.ensures.said);
})

pub returns : goal.returns
returns g c = record {
  faults = λ device. refl;
  text = says g (goal.at.returns g c).After-summary_line (rw c.summary_line.ensures at c.in_ok-say.ensures.said);
}
