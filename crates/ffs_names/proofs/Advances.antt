-- How a reading of chunks goes from step to step: over Tails and Gaps, and past each Run that is seen.
use Rattle.std.proofs.Common.{◌≡◌, ◌≤◌, ◌<◌, ℕ, zero, suc, ◌+◌, ◌-◌, ◌^◌, ◌==◌, min, Bool, true, false, ◌||◌, if◌then◌else◌}
use Rattle.std.proofs.Common.{List, [], ◌∷◌, ◌++◌, replicate, Option, Some, None, arith, inr, refl, sym, ap, ◌∙◌}
use Rattle.std.proofs.lemmas.Bool.{or_right}
use Rattle.ffs_volume.{proofs.ReplayLaws.{counted_same, gaps_seen}, specs.declared.{Layout.Layout, Step.Step}}
use Rattle.ffs_volume.specs.{declared.Step.TheVariants.{Run, Tail, Gap}, Directories.Entries.{Chunk, chunks_of}}
use Rattle.ffs_volume.specs.{Directories.Entries.{has_gap, is_gap, step_chunks}, Disk.Areas.is_run_in_range}
use Rattle.ffs_volume.specs.Encodings.Replay.{Replay, is_replay_open, is_replayed, replay_after_step, replayed_steps}
use Rattle.ffs_volume.specs.Encodings.ReplayCounts.{replayed_runs, seen_run}
use Rattle.ffs_walk.{proofs.WalkSteps.top_ends, specs.{Counts.indirect_in_step, Keepings.{Replays, replay_in}, Rests.{IsOver, most_steps_left}}}
use Rattle.ffs_walk.specs.{Rests.steps_left, declared.{keeping.Keeping.Keeping, walk.Walk.Walk}}
use Rattle.ffs_names.specs.{Costs.{SeesRun, unread_run}, Readings.{CanSee, Continues, HasSeenAll, IsSame}}
use Rattle.ffs_names.specs.{Readings.{chunks_after, gap_after, runs_after}, RunCursors.{IsWhole, cursor_chunks, reading_by}}
use Rattle.ffs_names.specs.declared.{chunks.Chunks.Chunks, run_cursor.RunCursor.RunCursor}
use Rattle.ffs_names.proofs.{Continuing.{continues_more, counts_here}, ReadCounts.{entered_one, run_over}}
use Rattle.ffs_names.proofs.RunChunks.{cursor_step}

-- ---- where nothing is left
-- a walk that is over has no steps left, and no Runs
pub over_rest : (b : List ℕ) (w : Walk) → IsOver w → steps_left b w ≡ []
over_rest b w o = let top = o.top in top_ends b w (omega arith) o.single o.double o.triple

-- so it may take none, whatever its image holds
pub over_left : {w : Walk} → IsOver w → most_steps_left w ≡ 0
over_left h = grind arith

pub over_runs : (b : List ℕ) (w : Walk) (v : Layout) (cut : ℕ) (r : Replay) → IsOver w →
    replayed_runs v cut r (steps_left b w) ≡ 0
over_runs b w v cut r o = ap (replayed_runs v cut r) (over_rest b w o)

-- a Run with no chunk left
pub no_run_cursor : (v : Layout) (b : List ℕ) (cursor : RunCursor) → cursor.next ≡ cursor.count →
    cursor_chunks v b cursor ≡ []
no_run_cursor v b cursor e = let none : cursor.count - cursor.next ≡ 0 = omega arith in rw none refl

-- where no step is seen, no chunk and no hole comes
unseen : (b : List ℕ) (c : Chunks) (steps : List Step) → is_replay_open c.keeping.cut (replay_in c.keeping) ≡ false →
    (chunks_after b c steps ≡ []) × (gap_after c steps ≡ false)
unseen b c [] h = (refl, refl)
unseen b c (Tail ∷ steps) h = rw h (unseen b c steps h)
unseen b c (Gap ∷ steps) h = rw h (unseen b c steps h)
unseen b c (Run start len block ∷ steps) h = rw h (unseen b c steps h)

-- so all is seen where the replay is closed, and where the walk is over
pub seen_if_shut : {b : List ℕ} {c : Chunks} → c.run_cursor.next ≡ c.run_cursor.count →
    is_replay_open c.keeping.cut (replay_in c.keeping) ≡ false → HasSeenAll b c
seen_if_shut {b = b} {c = c} e h =
    let none = unseen b c (steps_left b c.walk) h in
    record { chunks = rw (no_run_cursor c.walk.geometry.layout b c.run_cursor e) none.0; gap = none.1 }

pub seen_if_over : {b : List ℕ} {c : Chunks} → c.run_cursor.next ≡ c.run_cursor.count → IsOver c.walk → HasSeenAll b c
seen_if_over {b = b} {c = c} e o = grind (arith, over_rest, no_run_cursor)

-- where all is seen, no chunk of the current Run is left
pub run_is_given : {b : List ℕ} {c : Chunks} → HasSeenAll b c → c.run_cursor.next < c.run_cursor.count → ⊥
run_is_given {b = b} {c = c} seen more =
    let none = sym (cursor_step c.walk.geometry.layout b c.run_cursor (chunks_after b c (steps_left b c.walk)) more)
    ∙ seen.chunks in
    cc

-- where no hole is left, what was seen stands
pub gap_ended : (gap left : Bool) → left ≡ false → (gap || left) ≡ gap
gap_ended true left e = refl
gap_ended false left e = e

-- ---- a step that is no Run
-- the chunks of steps that are kept
abbrev kept_chunks : List ℕ → Chunks → List Step → List Chunk
kept_chunks b c steps = chunks_of (reading_by c.walk.geometry.layout b c.bytes_to_read)
    (is_run_in_range c.walk.geometry.layout) steps

-- whether the next step is seen, and which of the steps to come are kept
abbrev is_open_here : Chunks → Bool
is_open_here c = is_replay_open c.keeping.cut (replay_in c.keeping)

abbrev steps_kept : Chunks → List Step → List Step
steps_kept c steps = replayed_steps c.walk.geometry.layout c.keeping.cut (replay_in c.keeping) steps

-- kept or not, a step without chunks has none, and one that is no Gap is no hole
no_chunk : (b : List ℕ) (c : Chunks) (step : Step) (kept : Bool) (steps : List Step) → kept_chunks b c (step ∷ steps) ≡
    kept_chunks b c steps → kept_chunks b c ((if kept then step ∷ [] else []) ++ steps) ≡ kept_chunks b c steps
no_chunk b c step true steps e = e
no_chunk b c step false steps e = refl

no_hole : (step : Step) (kept : Bool) (steps : List Step) → is_gap step ≡ false →
    has_gap ((if kept then step ∷ [] else []) ++ steps) ≡ has_gap steps
no_hole step true steps e = rw e refl
no_hole step false steps e = refl

gaps_after : (b : List ℕ) (c : Chunks) (n : ℕ) (steps : List Step) →
    chunks_after b c (replicate n Gap ++ steps) ≡ chunks_after b c steps
gaps_after b c zero steps = refl
gaps_after b c (suc n) steps =
    no_chunk b c Gap (is_open_here c) (steps_kept c (replicate n Gap ++ steps)) refl ∙ gaps_after b c n steps

-- a step of its walk changes no more of a reading than the walk, and whether a hole was seen
pub record OnlyWalks (c c' : Chunks) : Type 0 where
  pub geometry : c'.walk.geometry ≡ c.walk.geometry
  pub keeping : c'.keeping ≡ c.keeping
  pub bytes_to_read : c'.bytes_to_read ≡ c.bytes_to_read
  pub chunks_left : c'.chunks_left ≡ c.chunks_left
  pub run_cursor : c'.run_cursor ≡ c.run_cursor
  pub runs : c'.runs ≡ c.runs

pub only_walks : {c c' : Chunks} → c'.walk.geometry ≡ c.walk.geometry → c'.keeping ≡ c.keeping → c'.bytes_to_read ≡
    c.bytes_to_read → c'.chunks_left ≡ c.chunks_left → c'.run_cursor ≡ c.run_cursor → c'.runs ≡ c.runs → OnlyWalks c c'
only_walks e k t n h r = grind arith

pub same_walked : {c c' c'' : Chunks} → IsSame c c' → OnlyWalks c' c'' → IsSame c c''
same_walked h s = grind arith

-- so it continues where the steps to come have the same chunks, Runs and holes
continues_walking : {b : List ℕ} {c c' : Chunks} {old new : List Step} → OnlyWalks c c' →
    chunks_after b c old ≡ chunks_after b c new → runs_after c old ≡ runs_after c new →
    (c'.gap || gap_after c new) ≡ (c.gap || gap_after c old) → Continues b c old c' new
continues_walking s chunks runs gap = grind (arith, counts_here)

-- with the same steps to come, as those of a Run that is seen next, over a Tail, and over Gaps
pub walks_on : {b : List ℕ} {c c' : Chunks} {old new : List Step} → OnlyWalks c c' → c'.gap ≡ c.gap → old ≡ new →
    Continues b c old c' new
walks_on s gap e = rw e (continues_walking s refl refl (rw gap refl))

pub sees_on : {b : List ℕ} {c m c' : Chunks} {old : List Step} {run : Step} {w : Walk} → c'.walk ≡ w →
    Continues b m (run ∷ steps_left b w) c' (steps_left b w) → OnlyWalks c m → m.gap ≡ c.gap →
    old ≡ run ∷ steps_left b w → Continues b c old c' (steps_left b c'.walk)
sees_on {b = b} walk after s gap e = rw (ap (steps_left b) walk) (continues_more (walks_on s gap e) after)

pub over_tail : {b : List ℕ} {c c' : Chunks} {old new : List Step} → OnlyWalks c c' → c'.gap ≡ c.gap →
    old ≡ Tail ∷ new → Continues b c old c' new
over_tail {b = b} {c = c} {new = new} s gap e = grind (arith, continues_walking, no_chunk, no_hole)

pub over_gaps : {b : List ℕ} {c c' : Chunks} {old new : List Step} (n : ℕ) → OnlyWalks c c' → c'.gap ≡ true →
    is_replay_open c.keeping.cut (replay_in c.keeping) ≡ true → old ≡ Gap ∷ (replicate n Gap ++ new) →
    Continues b c old c' new
over_gaps {b = b} {c = c} {new = new} n s gap seen e = rw e (continues_walking s (gaps_after b c (suc n) new)
    (gaps_seen c.walk.geometry.layout c.keeping.cut (replay_in c.keeping) (suc n) new)
    (rw (gap, seen) (sym (or_right c.gap true refl))))

-- the Runs that are left then, by a layout that is the same
pub runs_on : {v v' : Layout} {old new : List Step} (k : Keeping) → v' ≡ v → old ≡ new →
    replayed_runs v' k.cut (replay_in k) new ≡ replayed_runs v k.cut (replay_in k) old
runs_on k same e = rw (same, e) refl

pub runs_tail : {v v' : Layout} {old new : List Step} (k : Keeping) → v' ≡ v → old ≡ Tail ∷ new →
    replayed_runs v' k.cut (replay_in k) new ≡ replayed_runs v k.cut (replay_in k) old
runs_tail k same e = rw (same, e) (omega arith)

pub runs_gaps : {v v' : Layout} {old : List Step} (k : Keeping) (n : ℕ) (new : List Step) → v' ≡ v → old ≡ Gap ∷
    (replicate n Gap ++ new) → replayed_runs v' k.cut (replay_in k) new ≡ replayed_runs v k.cut (replay_in k) old
runs_gaps {v = v} k n new same e = rw (same, e) (sym (gaps_seen v k.cut (replay_in k) (suc n) new))

-- ---- a Run that is seen
-- it is counted, and replayed: so many of its offers are kept
pub record SeesBy (c c' : Chunks) (start len : ℕ) (block : Option ℕ) (taken : ℕ) : Type 0 where
  pub can : CanSee c (Run start len block)
  pub walk : c'.walk ≡ c.walk
  pub bytes_to_read : c'.bytes_to_read ≡ c.bytes_to_read
  pub cut : c'.keeping.cut ≡ c.keeping.cut
  pub replays : Replays c.walk.geometry.layout (Run start len block) (taken == len) c.keeping c'.keeping
  pub runs : c'.runs ≡ min (c.runs + 1) (2 ^ 64 - 1)
  pub gap : c'.gap ≡ c.gap

run_chunks_kept : (b : List ℕ) (c : Chunks) (step : Step) (kept : Bool) (steps : List Step) → (if kept then step_chunks
    (reading_by c.walk.geometry.layout b c.bytes_to_read) (is_run_in_range c.walk.geometry.layout) step else []) ++
    kept_chunks b c steps ≡ kept_chunks b c ((if kept then step ∷ [] else []) ++ steps)
run_chunks_kept b c step true steps = refl
run_chunks_kept b c step false steps = refl

runs_seen : {c c' : Chunks} {start len taken : ℕ} {block : Option ℕ} → SeesBy c c' start len block taken →
    (steps : List Step) → 1 + runs_after c' steps ≡ runs_after c (Run start len block ∷ steps)
runs_seen {c = c} {start = start} {len = len} {block = block} s steps =
    let run = Run start len block in
    let same = (counted_same c.walk.geometry.layout 0 c.keeping.cut (replay_in c.keeping) run steps).runs_are in
    let seen : seen_run c.keeping.cut (replay_in c.keeping) run ≡ 1 = rw s.can.seen refl in
    rw (s.walk, s.cut, s.replays.after) (omega arith)

-- the reading continues with the chunks of the Run, where all its offers are kept
sees : {b : List ℕ} {c c' : Chunks} {start len taken : ℕ} {block : Option ℕ} → SeesBy c c' start len block taken →
    cursor_chunks c.walk.geometry.layout b c'.run_cursor ≡ (if taken == len then step_chunks (reading_by
    c.walk.geometry.layout b c.bytes_to_read) (is_run_in_range c.walk.geometry.layout) (Run start len block) else []) →
    (steps : List Step) → Continues b c (Run start len block ∷ steps) c' steps
sees {b = b} {c = c} {start = start} {len = len} {block = block} s found steps =
    let v = c.walk.geometry.layout in
    let r = replay_in c.keeping in
    let run = Run start len block in
    let kept = is_replayed v c.keeping.cut r run in
    let rest = replayed_steps v c.keeping.cut (replay_after_step v c.keeping.cut r run) steps in
    let same = (counted_same v 0 c.keeping.cut r run steps).steps_are in
    let runs = s.runs in
    let seen = runs_seen s steps in
    record {
      chunks = rw (
        s.walk,
        s.bytes_to_read,
        s.cut,
        s.replays.after,
        found,
        no_run_cursor v b c.run_cursor s.can.empty,
        ← same,
        s.replays.kept,
      ) (run_chunks_kept b c run kept rest);
      runs = record { most = omega arith; all = λ small. omega arith };
      gap = rw (s.gap, s.walk, s.cut, s.replays.after, ← same)
          (ap (λ x. c.gap || x) (sym (no_hole run kept rest refl)));
    }

-- and it takes one read at most
pub sees_chunks : {c c' : Chunks} {start len taken : ℕ} {block : Option ℕ} → SeesBy c c' start len block taken → ((b :
    List ℕ) → cursor_chunks c.walk.geometry.layout b c'.run_cursor ≡ (if taken == len then step_chunks (reading_by
    c.walk.geometry.layout b c.bytes_to_read) (is_run_in_range c.walk.geometry.layout) (Run start len block) else [])) →
    unread_run c'.run_cursor + indirect_in_step (Run start len block) ≤ 1 → IsWhole c'.run_cursor → SeesRun c c' start len block
sees_chunks s found few whole = record {
  continues = λ b. sees s (found b);
  walk = s.walk;
  reads = λ steps. let seen = runs_seen s steps in omega (arith, few);
  whole = whole;
}

-- where it has no chunk, the current Run has none left still
none_unless : {A : Type 0} (x : Bool) (xs : List A) → (x ≡ true → xs ≡ []) → (if x then xs else []) ≡ []
none_unless true xs h = h refl
none_unless false xs h = refl

pub sees_none : {c c' : Chunks} {start len taken : ℕ} {block : Option ℕ} → SeesBy c c' start len block taken →
    c'.run_cursor ≡ c.run_cursor →
    ((b : List ℕ) → (taken == len) ≡ true → step_chunks (reading_by c.walk.geometry.layout b c.bytes_to_read)
    (is_run_in_range c.walk.geometry.layout) (Run start len block) ≡ []) → SeesRun c c' start len block
sees_none {c = c} {start = start} {len = len} {taken = taken} {block = block} s same none = sees_chunks s
    (λ b. rw same (no_run_cursor c.walk.geometry.layout b c.run_cursor s.can.empty
    ∙ sym (none_unless (taken == len) _ (none b))))
    (rw same (omega (arith, run_over c.run_cursor s.can.empty, entered_one start len block)))
    (rw same (inr s.can.empty))

-- as a Run that isn't in range
pub no_data : (v : Layout) (b : List ℕ) (taken start len : ℕ) (block : Option ℕ) → is_run_in_range v start len ≡ false →
    step_chunks (reading_by v b taken) (is_run_in_range v) (Run start len block) ≡ []
no_data v b taken start len None h = refl
no_data v b taken start len (Some place) h = rw h refl
