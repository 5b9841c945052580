-- The lines of lost fragments and of those that are marked as free, one list after the other.
use Rattle.std.proofs.Common.{◌≡◌, ◌+◌, ◌≤◌, ℕ, Bool, List, [], ◌++◌, append_assoc, append-nil, arith, Ok, Err, refl}
use Rattle.std.{specs.{List.concat, Prelude.◌||◌}, proofs.Common.{inl, inr, sym}}
use Rattle.ffs_image.specs.{Device.Device, Known.{ForBytes, IsContents}}
use Rattle.ffs_volume.specs.{declared.Layout.Layout, Blocks.Claims.all_claims, Find.Lost.lost_lines}
use Rattle.ffs_check.specs.Moment.{Moment}
use Rattle.ffs_groups.specs.Free.{free_in}
use Rattle.ffs_maps.specs.Bits.{bits_of}
use Rattle.ffs_report.specs.{Fails.FailsIn, Sink.Sink, declared.fault.RunFault.{RunFault, TheVariants.{Read, Out}}}
use Rattle.ffs_report.proofs.Sinks.{took_then}
use Rattle.ffs_workspace.specs.declared.workspace.Workspace.{Workspace}
use Rattle.ffs_finding.specs.{Claims.WithBlocks, Outcome.{PrintedOf, PrintsLines, any_line}, LostMaps.lines_of_groups}
use Rattle.ffs_finding.specs.LostMaps.{FailsBeforeGroup, FailsForLost, from_group, lost_from, marked_free_from}
use Rattle.ffs_finding.{specs.declared.lost.Wrong.TheVariants.{Lost, MarkedFree}, proofs.LostGroups.both}
use Rattle.ffs_finding.proofs.Printing.{PrintedWhether, any_more, begins, concat-append, knowing, part, part_fault}
use Rattle.ffs_finding.proofs.Printing.{printed_knowing, some_of_part}

-- where more is known, and more reads were made before
later : {knows knows' : List ℕ → Type 0} {v : Layout} {from : ℕ → List ℕ → List (List ℕ)} {all : List ℕ → List (List ℕ)}
    {begun begun' made at : ℕ} {a b : Sink} → ForBytes knows' knows → begun ≤ begun' →
    FailsBeforeGroup v (λ c. PrintedOf knows (from c) all a b) begun made at →
    FailsBeforeGroup v (λ c. PrintedOf knows' (from c) all a b) begun' made at
later more few p = record {
  group = p.group;
  below = p.below;
  failed = p.failed;
  printed = printed_knowing (λ b k. (more b k, refl)) p.printed;
  reads = omega (arith, few, p.reads);
}

pub fails_later : (knows knows' : List ℕ → Type 0) (v : Layout) (begun begun' : ℕ) (a : Sink) (m : Moment) (at : ℕ) →
    ForBytes knows' knows → begun ≤ begun' → FailsForLost knows v begun a m at → FailsForLost knows' v begun' a m at
fails_later knows knows' v begun begun' a m at more few (inl p) = inl (later more few p)
fails_later knows knows' v begun begun' a m at more few (inr p) = inr (later more (omega (arith, few)) p)

module _ (v : Layout) (d : Device) (w : Workspace) where
  abbrev free : ℕ → Bool
  free = free_in (bits_of w.used) v.size

  abbrev first : (image : List ℕ) → List (List ℕ)
  first image = lines_of_groups Lost v free image

  abbrev second : (image : List ℕ) → List (List ℕ)
  second image = lines_of_groups MarkedFree v free image

  second_all : ForBytes (WithBlocks v d w) (λ b. second b ≡ second b ++ [])
  second_all b k = sym (append-nil (second b))

  -- the first list was printed
  one : (a b : Sink) (x : Bool) → PrintsLines {T = Bool} (IsContents d.contents) first a b (Ok x) →
      PrintedOf (WithBlocks v d w) second (λ b. lost_lines v b) a b
  one a b x p = part (WithBlocks v d w) (λ b. lost_lines v b) first second (λ b. lost_lines v b) a a b
      (begins _ _ a) (both v d w) (knowing Bool _ (WithBlocks v d w) first a b (Ok x) (λ b k. k.0) p)

  -- a fault came in the first list
  pub fault_in_first : (a b : Sink) (fault : RunFault) →
      PrintsLines {T = Bool} (IsContents d.contents) first a b (Err fault) →
      PrintsLines {T = Bool} (WithBlocks v d w) (λ b. lost_lines v b) a b (Err fault)
  fault_in_first a b fault p = part_fault Bool Bool (WithBlocks v d w) (λ b. lost_lines v b) first second
      (λ b. lost_lines v b) a a b fault (begins _ _ a) (both v d w)
      (knowing Bool _ (WithBlocks v d w) first a b (Err fault) (λ b k. k.0) p)

  -- a fault came in the second list
  pub fault_in_second : (a b c : Sink) (x : Bool) (fault : RunFault) →
      PrintsLines {T = Bool} (IsContents d.contents) first a b (Ok x) →
      PrintsLines {T = Bool} (IsContents d.contents) second b c (Err fault) →
      PrintsLines {T = Bool} (WithBlocks v d w) (λ b. lost_lines v b) a c (Err fault)
  fault_in_second a b c x fault p q = part_fault Bool Bool (WithBlocks v d w) second second (λ b. [])
      (λ b. lost_lines v b) a b c fault (one a b x p) second_all
      (knowing Bool _ (WithBlocks v d w) second b c (Err fault) (λ b k. k.0) q)

  -- what is left from a group on, by what the workspace holds
  from_lost : (c : ℕ) → ForBytes (WithBlocks v d w) (λ b. lost_from v c b ≡ from_group Lost v free c b ++ second b)
  unfolding all_claims
  from_lost c b k = rw (k.1.used) refl

  from_marked : (c : ℕ) → ForBytes (WithBlocks v d w)
      (λ b. marked_free_from v c b ≡ from_group MarkedFree v free c b ++ [])
  unfolding all_claims
  from_marked c b k = rw (k.1.used) (sym (append-nil (marked_free_from v c b)))

  -- a read failed in the first list, and in the second
  pub failed_in_first : (begun : ℕ) (a : Sink) (m : Moment) (fault : RunFault) →
      FailsIn {T = Bool} (FailsBeforeGroup v
      (λ c. PrintedOf (IsContents d.contents) (from_group Lost v free c) first a m.out) begun m.reads)
      (Err fault) → FailsIn {T = Bool} (FailsForLost (WithBlocks v d w) v begun a m) (Err fault)
  failed_in_first begun a m (Out fault) p = tt
  failed_in_first begun a m (Read fault) p = inl (record {
    group = p.group;
    below = p.below;
    failed = p.failed;
    printed = some_of_part (WithBlocks v d w) (λ b. lost_lines v b) first (from_group Lost v free p.group) second
        (lost_from v p.group) (λ b. lost_lines v b) a a m.out (begins _ _ a) (both v d w) (from_lost p.group)
        (printed_knowing (λ b k. (k.0, refl)) p.printed);
    reads = p.reads;
  })

  pub failed_in_second : (begun between : ℕ) (a b : Sink) (m : Moment) (x : Bool) (fault : RunFault) →
      between ≤ begun + v.ncg → PrintsLines {T = Bool} (IsContents d.contents) first a b (Ok x) →
      FailsIn {T = Bool} (FailsBeforeGroup v
      (λ c. PrintedOf (IsContents d.contents) (from_group MarkedFree v free c) second b m.out) between m.reads)
      (Err fault) → FailsIn {T = Bool} (FailsForLost (WithBlocks v d w) v begun a m) (Err fault)
  failed_in_second begun between a b m x (Out fault) few p q = tt
  failed_in_second begun between a b m x (Read fault) few p q = inr (record {
    group = q.group;
    below = q.below;
    failed = q.failed;
    printed = some_of_part (WithBlocks v d w) second second (from_group MarkedFree v free q.group) (λ b. [])
        (marked_free_from v q.group) (λ b. lost_lines v b) a b m.out (one a b x p) second_all (from_marked q.group)
        (printed_knowing (λ b k. (k.0, refl)) q.printed);
    reads = omega (arith, few, q.reads);
  })

  -- both lists were printed
  pub printed_both : (a b c : Sink) (x y : Bool) → (p : PrintedOf (IsContents d.contents) (λ b. []) first a b) →
      x ≡ any_line p.lines → (q : PrintedOf (IsContents d.contents) (λ b. []) second b c) → y ≡ any_line q.lines →
      PrintedWhether (WithBlocks v d w) (λ b. []) (λ b. lost_lines v b) (x || y) a c
  printed_both a b c x y p some q more = record {
    printed = record {
      lines = p.lines ++ q.lines;
      right = λ b k. grind (arith, append_assoc, append-nil, p.right b k.0, q.right b k.0, both v d w b k);
      took = rw (concat-append p.lines q.lines) (took_then a b c (concat p.lines) (concat q.lines) p.took q.took);
    };
    any_is = rw (any_more p.lines q.lines, some, more) refl;
  }
