-- How the shape of a directory shows itself as its chunks are read.
use Rattle.std.proofs.Common.{◌≡◌, ℕ, ◌+◌, ◌<◌, ◌≤◌, ◌^◌, ◌==◌, Bool, true, false, not, ◌&&◌, ◌||◌, List, [], ◌∷◌, Some}
use Rattle.std.proofs.{Common.{None, ap, arith, is_some, refl, sum_by}, lemmas.List.Sums.sum_by-cons}
use Rattle.std.proofs.Math.Bool.{and-true}
use Rattle.ffs_volume.{proofs.Reading.{entries_next, entries_end}, specs.declared.{Inode.Inode, Layout.Layout}}
use Rattle.ffs_volume.specs.{declared.Order.Order, Directories.Entries.{Entry, Chunk, chunk_of, entry_at, entries_from}}
use Rattle.ffs_volume.specs.{Directories.{Entries.has_gap, PathnameCheck.are_sound}, Blocks.Steps.steps_of}
use Rattle.ffs_volume.specs.Encodings.{Replay.{fresh_replay, replayed_steps}, ReplayCounts.replayed_runs}
use Rattle.ffs_volume.specs.Costs.Calm.{is_right_size}
use Rattle.ffs_walk.specs.declared.{blocks.Blocks.Blocks, window.Window.Window}
use Rattle.ffs_names.specs.{Costs.{HoldsReading, to_read}, Readings.{chunks_in, gap_left, rest, runs_left}}
use Rattle.ffs_names.specs.{Shapes.BeginsDirectory, declared.{chunks.Chunks.Chunks, entries.Entries.Entries}}
use Rattle.ffs_names.proofs.{Entered.{end_of_chunk, end_seen}, EntryCounts.at_most}

abbrev pub fills_from : Order → List ℕ → ℕ → Bool
fills_from order chunk place = place + sum_by (λ e. e.length) (entries_from order chunk 64 place) == 512

pub fills_next : (order : Order) (chunk : List ℕ) (place : ℕ) (e : Entry) → entry_at order chunk place ≡ Some e →
    fills_from order chunk (place + e.length) ≡ fills_from order chunk place
fills_next order chunk place e there =
    let s = sum_by-cons (λ x. x.length) e (entries_from order chunk 64 (place + e.length)) in
    let m = ap (λ es. sum_by (λ x. x.length) es) (entries_next order chunk place e there) in
    let same : (place + e.length) + sum_by (λ x. x.length) (entries_from order chunk 64 (place + e.length))
    ≡ place + sum_by (λ x. x.length) (entries_from order chunk 64 place) = omega (arith, s, m) in
    rw same refl

pub fills_end : (order : Order) (chunk : List ℕ) (place : ℕ) → entry_at order chunk place ≡ None →
    fills_from order chunk place ≡ (place == 512)
fills_end order chunk place none = grind (arith, entries_end)

-- no entry is left in a chunk that was read to its end
pub fills_whole : (order : Order) (chunk : List ℕ) → fills_from order chunk 512 ≡ true
fills_whole order chunk = fills_end order chunk 512 (end_of_chunk order chunk)

-- a chunk came after one was read to its end
pub shape_came : (s : Bool) (order other : Order) (chunk : List ℕ) (place : ℕ) (old : List Chunk) (offset : ℕ) (next :
    List ℕ) (rest : List Chunk) (gap gap' : Bool) → is_some (entry_at order chunk place) ≡ false → other ≡ order → old ≡
    chunk_of other offset next ∷ rest → gap' ≡ gap → (((s && (place == 512)) && fills_from order next 0) && (are_sound
    rest && not gap')) ≡ ((s && fills_from order chunk place) && (are_sound old && not gap))
shape_came s order other chunk place old offset next rest gap gap' none q e same = grind (arith, fills_end)

-- none came
pub shape_ended : (s : Bool) (order : Order) (chunk last : List ℕ) (place : ℕ) (old rest : List Chunk) (gap gap' : Bool)
    → is_some (entry_at order chunk place) ≡ false → old ≡ [] → rest ≡ [] → gap' ≡ gap
    → (((s && (place == 512)) && fills_from order last 512) && (are_sound rest && not gap'))
    ≡ ((s && fills_from order chunk place) && (are_sound old && not gap))
shape_ended s order chunk last place old rest gap gap' none e r same = grind (arith, fills_whole, fills_end)

-- so a reading of entries begins with one of chunks, where the current chunk was read to its end
pub begins_directory : {v : Layout} {i : Inode} {cut : ℕ} {r : Entries} → r.place ≡ 512 → r.right_so_far ≡ is_right_size
    i.size → ((b : List ℕ) → i.size < 2 ^ 31 → rest b r.chunks ≡ chunks_in v b i cut) → r.chunks.gap ≡ false → ((b :
    List ℕ) → gap_left b r.chunks ≡ has_gap (replayed_steps v cut fresh_replay (steps_of v i b))) → ((b : List ℕ) →
    to_read b r.chunks ≤ replayed_runs v cut fresh_replay (steps_of v i b)) → ((blocks : Blocks) (w : Window) →
    HoldsReading blocks w r.chunks) → r.chunks.runs ≡ 0 → ((b : List ℕ) → runs_left b r.chunks ≡ replayed_runs v cut
    fresh_replay (steps_of v i b)) → BeginsDirectory v i cut r
begins_directory {r = r} place right chunks gap left few held none runs = record {
  gives = λ b small. record { entries = grind (arith, end_seen); shape = grind (arith, fills_whole, and-true) };
  place = place;
  runs = none;
  runs_left = runs;
  to_read = λ b. omega (arith, at_most b r.right_so_far r.chunks, few b);
  held = λ blocks w may. held blocks w;
}

-- an entry was taken
pub shape_same : (b : List ℕ) (s s' f f' : Bool) (c c' : Chunks) → s' ≡ s → f' ≡ f → c' ≡ c → ((s' && f') && (are_sound
    (rest b c') && not (c'.gap || gap_left b c'))) ≡ ((s && f) && (are_sound (rest b c) && not (c.gap || gap_left b c)))
shape_same b s s' f f' c c' e h q = rw (e, h, q) refl
