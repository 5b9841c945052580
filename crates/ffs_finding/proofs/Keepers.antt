-- How the lines of an inode are found.
use Rattle.std.proofs.Common.{◌≡◌, ◌∙◌, ℕ, ◌+◌, ◌<◌, ◌≤◌, List, Result, Ok, Err, slice_index, arith, ap}
use Rattle.ffs_image.specs.{Device.Device, Known.{ForBytes, IsContents}}
use Rattle.ffs_volume.specs.{Blocks.KeptSteps.claims_before, Laws.Geometry.IsAcceptedLayout, declared.Layout.Layout}
use Rattle.ffs_volume.specs.{Find.Owner.keeper_lines_of_inode, Blocks.Inodes.inodes_of, Encodings.Notes.note_at}
use Rattle.ffs_report.specs.{Sink.Sink, declared.fault.RunFault.{RunFault, TheVariants.{Read, Out}}}
use Rattle.ffs_workspace.specs.{Ready.LeavesAllButWindows, declared.workspace.Workspace.Workspace}
use Rattle.ffs_finding.specs.{Claims.WithBlocks, Keepers.{FindsKeeper, sought_in}, Outcome.PrintsLines}
use Rattle.ffs_finding.proofs.{Owners.{listed_inode, inode_runs}, Printing.knowing}
use Rattle.ffs_check.specs.Moment.{Moment}

-- lines that are the same
pub same_lines : {T : Type 0} (knows : List ℕ → Type 0) (all all' : List ℕ → List (List ℕ)) (a b : Sink)
    (r : Result T RunFault) → ForBytes knows (λ bytes. all bytes ≡ all' bytes) → PrintsLines knows all a b r →
    PrintsLines knows all' a b r
same_lines knows all all' a b (Ok x) e p = grind arith
same_lines knows all all' a b (Err (Read fault)) e p = grind arith
same_lines knows all all' a b (Err (Out fault)) e p = grind arith

-- the lines of an inode that was read, in a workspace of which only windows have changed
pub found_lines : {T : Type 0} {v : Layout} {f x : ℕ} {m m' : Moment} {d0 on : Device} {w w0 : Workspace}
    {r : Result T RunFault} → m.image ≡ d0 → LeavesAllButWindows v on w0 w → IsAcceptedLayout v → 2 ≤ x →
    x < inodes_of v → FindsKeeper v (sought_in f x w) m m' r →
    PrintsLines (WithBlocks v d0 w0) (λ b. keeper_lines_of_inode v b f x) m.out m'.out r
found_lines {v = v} {f = f} {x = x} {m = m} {m' = m'} {d0 = d0} {w = w} {w0 = w0} {r = r} e stays g low high p =
    let note : ForBytes (WithBlocks v d0 w0) (λ b. slice_index w.notes.items x ≡ note_at v b x) = λ b k.
    ap (λ (z : Workspace). slice_index z.notes.items x) stays.held ∙ k.1.notes x in
    same_lines (WithBlocks v d0 w0) _ _ m.out m'.out r
    (λ b k. listed_inode v b f x (slice_index w.notes.items x) g low high (note b k))
    (knowing _ (IsContents m.image.contents) (WithBlocks v d0 w0) _ m.out m'.out r
    (λ b k. ap (λ (z : Device). z.contents) e ∙ k.0) p.found.text)

-- and its reads
pub found_reads : {T : Type 0} {v : Layout} {f x : ℕ} {m m' : Moment} {d0 on : Device} {w w0 : Workspace}
    {r : Result T RunFault} → m.image ≡ d0 → LeavesAllButWindows v on w0 w → IsAcceptedLayout v → 2 ≤ x →
    x < inodes_of v → FindsKeeper v (sought_in f x w) m m' r →
    ForBytes (WithBlocks v d0 w0) (λ b. m'.reads + (claims_before v b x).runs
    ≤ m.reads + 1 + (claims_before v b (x + 1)).runs)
found_reads {v = v} {x = x} {w = w} e stays g low high p = λ b k.
    let note = ap (λ (z : Workspace). slice_index z.notes.items x) stays.held ∙ k.1.notes x in
    let runs = inode_runs v b x (slice_index w.notes.items x) g low high note in
    omega (arith, runs, p.reads b (ap (λ (z : Device). z.contents) e ∙ k.0))

-- only windows have changed
pub stays_then : {v : Layout} {on on' : Device} {u w w' : Workspace} → LeavesAllButWindows v on u w → LeavesAllButWindows v on' w w' →
    LeavesAllButWindows v on' u w'
stays_then {w' = w'} p q = grind arith
