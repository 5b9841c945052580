-- By what a volume holds, the phases read no more often than the limit of its layout.
use Rattle.std.proofs.Common.{ℕ, ◌≡◌, ◌+◌, ◌*◌, ◌≤◌, Bool, true, false, List, [], ◌∷◌, ◌++◌, Some, None, ap, arith}
use Rattle.std.proofs.{Common.{refl, if◌then◌else◌, inl, inr, length}, lemmas.{Bool.cases_Bool, List.length-append}}
use Rattle.std.{proofs.lemmas.List.length-map, specs.List.range_with_len}
use Rattle.ffs_volume.{proofs.{Potentials.offers_keep, RunBounds.runs_bounded}, specs.Blocks.BlockCheck.has_dup_lines}
use Rattle.ffs_volume.specs.Blocks.{Owners.{Owner, owners_of}, Claims.{Claims, after_owner, after_owners, after_run}}
use Rattle.ffs_volume.specs.Blocks.Claims.{after_step, after_steps, at_next_inode, is_open, no_claims, all_claims}
use Rattle.ffs_volume.specs.{Laws.Geometry.IsAcceptedLayout, Report.{Memory.runs_limit, Reads.{phase_reads, table_blocks}}}
use Rattle.ffs_volume.specs.Report.{Reads.{sweep_reads, group_reads}, Whole.{run_count, later_phase_lines, phase_lines}}
use Rattle.ffs_volume.specs.Costs.VolumeReads.{indirect_count, indirect_in_owners, indirect_in_steps, seen_indirect}
use Rattle.ffs_volume.specs.Costs.VolumeReads.{later_reads, rescan_reads, volume_phase_reads, volume_scan_reads}
use Rattle.ffs_volume.specs.{declared.{Layout.Layout, Step.{Step, TheVariants.{Gap, Run, Tail}}}, Disk.Search.some_below}
use Rattle.ffs_volume.specs.{Disk.Superblock.Superblock, Messages.Kinds.of_tree}
use Rattle.ffs_volume.specs.Directories.{Connectivity.connectivity_lines, ReferenceCheck.reference_lines}
use Rattle.ffs_volume.specs.Directories.{PathnameCheck.{continues_after_root, pathname_lines}, Volumes.volume_of}
use Rattle.ffs_volume.specs.Costs.DirectoryReads.{directory_cost, noted_directories_cost, is_looked_at, phase2_cost}
use Rattle.std.proofs.Math.Nat.{div-add-mod', mul-le-mul_left}
use Rattle.ffs_survey.proofs.Costs.{costs_part}
use Rattle.ffs_names.proofs.Limits.{costs_within, noted_within}
use Rattle.ffs_check.proofs.RestOfText.{after_phase2, from_phase1b, from_phase2, from_phase4, from_phase5}
use Rattle.ffs_volume.specs.Report.Whole.{phase1_messages, phase1b_messages_if_dups, phase2_messages, phase3_messages, phase4_messages}

-- each Run that is seen is counted
run_rises : (v : Layout) (s : Claims) (start len : ℕ) → s.runs + 1 ≤ (after_run v s start len).runs
run_rises v s start len =
    let seen : Claims = record s { runs = s.runs + 1 } in
    let bad : Claims = record s { runs = s.runs + 1; bad = s.bad + 1 } in
    let keep = offers_keep v seen (range_with_len start len) in
    let keep_bad = offers_keep v bad (range_with_len start len) in
    grind arith

-- indirect blocks among them
step_rises : (v : Layout) (s : Claims) (step : Step) → s.runs + seen_indirect s step ≤ (after_step v s step).runs
step_rises v s (Run start len None) = elim (cases_Bool (is_open s)) [
  | inl e ↦ rw e (run_rises v s start len)
  | inr e ↦ rw e (omega arith)
]
step_rises v s (Run start len (Some block)) = elim (cases_Bool (is_open s)) [
  | inl e ↦ rw e (omega (arith, run_rises v s start len))
  | inr e ↦ rw e (omega arith)
]
step_rises v s Tail = elim (cases_Bool (is_open s)) [
  | inl e ↦ rw e (omega arith)
  | inr e ↦ rw e (omega arith)
]
step_rises v s Gap = omega arith

steps_rise : (v : Layout) (s : Claims) (steps : List Step) →
    s.runs + indirect_in_steps v s steps ≤ (after_steps v s steps).runs
steps_rise v s [] = omega arith
steps_rise v s (step ∷ steps) = omega (arith, step_rises v s step, steps_rise v (after_step v s step) steps)

owners_rise : (v : Layout) (s : Claims) (os : List Owner) →
    s.runs + indirect_in_owners v s os ≤ (after_owners v s os).runs
owners_rise v s [] = omega arith
owners_rise v s (o ∷ os) = omega (arith, steps_rise v (at_next_inode s) o.steps, owners_rise v (after_owner v s o) os)

indirect_few : (v : Layout) (bytes : List ℕ) → IsAcceptedLayout v → indirect_count v bytes ≤ runs_limit v
unfolding indirect_count run_count all_claims
indirect_few v bytes g = omega (arith, owners_rise v (no_claims v) (owners_of v bytes), runs_bounded v bytes g)

-- a table has no more blocks than inodes
tables_few : (v : Layout) → IsAcceptedLayout v → table_blocks v ≤ v.ncg * v.ipg
tables_few v g =
    let some : 1 ≤ v.inopb = omega (arith, g.sizes.inopb, g.sizes.bsize_low) in
    omega (arith, div-add-mod' (v.ncg * v.ipg) v.inopb, mul-le-mul_left (table_blocks v) some)

few_of : (b : Bool) (n m most : ℕ) → n ≤ most → m ≤ most → (if b then n else m) ≤ most
few_of true n m most hn hm = hn
few_of false n m most hn hm = hm

-- the directories take no more than four sweeps
directories_few : (v : Layout) (bytes : List ℕ) → IsAcceptedLayout v → phase2_cost v bytes ≤ 4 * sweep_reads v
directories_few v bytes g =
    let all = costs_within v bytes g in
    let looked = costs_part (is_looked_at v bytes) (directory_cost v bytes) (v.ncg * v.ipg) in
    let noted = noted_directories_cost v bytes in
    let places = few_of (some_below (is_looked_at v bytes) (v.ncg * v.ipg)) noted 0 noted (omega arith) (omega arith) in
    omega (arith, all, looked, places, noted_within v bytes g)

-- ---- the messages of the phases are among all
-- the whole text: phase 1, and what follows it
pub text_parts : (bytes : List ℕ) (s : Superblock) → phase_lines bytes s ≡ phase1_messages s.layout bytes ++ from_phase1b bytes s
unfolding phase_lines later_phase_lines
text_parts bytes s = refl

later_among : (goes : Bool) (bytes : List ℕ) (s : Superblock) →
    later_reads goes s.layout bytes ≤ length (after_phase2 goes bytes s) + group_reads s.layout
later_among true bytes s =
    let three = length-append (phase3_messages s.layout bytes) (from_phase4 bytes s) in
    let four = length-append (phase4_messages s.layout bytes) (from_phase5 bytes s) in
    let lines3 = length-map (connectivity_lines (volume_of s.layout bytes)) of_tree in
    let lines4 = length-map (reference_lines (volume_of s.layout bytes)) of_tree in
    omega (arith, three, four, lines3, lines4)
later_among false bytes s = omega arith

names_among : (bytes : List ℕ) (s : Superblock) → length (pathname_lines (volume_of s.layout bytes))
    + length (after_phase2 (continues_after_root (volume_of s.layout bytes)) bytes s) ≤ length (phase_lines bytes s)
names_among bytes s =
    let after = after_phase2 (continues_after_root (volume_of s.layout bytes)) bytes s in
    let whole = ap length (text_parts bytes s) in
    let one = length-append (phase1_messages s.layout bytes) (from_phase1b bytes s) in
    let again = length-append (phase1b_messages_if_dups s.layout bytes) (from_phase2 bytes s) in
    let two = length-append (phase2_messages s.layout bytes) after in
    let lines = length-map (pathname_lines (volume_of s.layout bytes)) of_tree in
    omega (arith, whole, one, again, two, lines)

-- and all phases
pub volume_few : (s : Superblock) (bytes : List ℕ) → IsAcceptedLayout s.layout →
    volume_phase_reads s.layout bytes ≤ phase_reads s.layout (length (phase_lines bytes s))
volume_few s bytes g =
    let scan : volume_scan_reads s.layout bytes ≤ sweep_reads s.layout =
    omega (arith, tables_few s.layout g, indirect_few s.layout bytes g) in
    let again : rescan_reads s.layout bytes ≤ sweep_reads s.layout =
    few_of (has_dup_lines s.layout (owners_of s.layout bytes)) (volume_scan_reads s.layout bytes) 0 _ scan (omega arith) in
    let later = later_among (continues_after_root (volume_of s.layout bytes)) bytes s in
    omega (arith, indirect_few s.layout bytes g, again, directories_few s.layout bytes g, later, names_among bytes s)
