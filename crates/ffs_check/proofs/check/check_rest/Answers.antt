use Rattle.std.proofs.{Common.{rules, ap, refl, ◌∙◌, ◌≡◌, ℕ}, Math.Bool.or-false}
use Rattle.ffs_image.specs.Device.{Device}
use Rattle.ffs_volume.specs.{declared.End.End, Disk.Superblock.Superblock}
use Rattle.ffs_layout.specs.Super.{superblock_in}
use Rattle.ffs_report.specs.{Progress.Progress, Sink.Sink}
use Rattle.ffs_workspace.specs.declared.workspace.Workspace.{Workspace}
use Rattle.ffs_check.{specs.AllPhases.RunsToEnd, proofs.Endings.opening_defect}
use Rattle.ffs_check.proofs.check.check_rest.Goals as goal

pub run_to_end-requires : goal.run_to_end-requires
run_to_end-requires g c = record {
  ready = c.requires.ready;
  opened = rw c.new-report.ensures (record {
    working = refl;
    defect = or-false _ ∙ c.opening_defects.ensures ∙ opening_defect (superblock_in c.args.superblock.now);
  });
}

-- the same of outputs by other names for them
runs_at : {W : Type 0} (sink : W → Sink) (a a' b b' : W) {s : Superblock} {w w' : Workspace} {image image' : Device}
    {before after : ℕ} {end : End} →
    RunsToEnd s w w' (record { image = image; reads = before; out = sink a })
    (record { image = image'; reads = after; out = sink b }) end → sink a ≡ sink a' → sink b ≡ sink b' →
    RunsToEnd s w w' (record { image = image; reads = before; out = sink a' })
    (record { image = image'; reads = after; out = sink b' }) end
runs_at sink a a' b b' runs first last = rw (← first, ← last) runs

pub returns : goal.returns
returns g c = record {
  ends = runs_at g.W.Output.sink _ _ _ _ c.run_to_end.ensures.ends (ap (λ (p : Progress). p.sink) c.new-report.ensures)
      (search rules);
}
