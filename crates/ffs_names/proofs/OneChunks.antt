-- A directory of one chunk is known by where its only block is.
use Rattle.std.proofs.Common.{◌≡◌, ℕ, zero, suc, ◌+◌, ◌*◌, ◌%◌, ◌<◌, ◌≤◌, ◌==◌, Bool, true, false, not, ◌&&◌, ◌||◌}
use Rattle.std.proofs.Common.{List, [], ◌∷◌, Some, arith, refl, ap, flat_map, if◌then◌else◌, mod-eq_of_lt}
use Rattle.std.{proofs.Common.{mul-le-mul_right, nat_lt, slice_index}, specs.Int.div_ceil}
use Rattle.std.proofs.lemmas.{Grind.div_ceil_times, Bool.Decides.nat_tests}
use Rattle.ffs_volume.specs.declared.{Class.TheVariants.Dir, Inode.Inode, Layout.Layout, Step.{Step, TheVariants.Run}}
use Rattle.ffs_volume.specs.Blocks.{Inodes.class_of, Steps.{data_step, steps_at, steps_of}}
use Rattle.ffs_volume.specs.Directories.{Entries.{bytes_read, chunk_of, chunks_of, has_gap}, PathnameCheck.are_sound}
use Rattle.ffs_volume.specs.{Directories.Roles.{RoledEntry, roled_chunk}, Disk.Areas.is_run_in_range}
use Rattle.ffs_volume.specs.{Laws.Geometry.IsAcceptedLayout, Encodings.Replay.{fresh_replay, replayed_steps}}
use Rattle.ffs_volume.specs.{Encodings.ReplayCounts.replayed_runs, Costs.Calm.is_right_size, Disk.Numbers.piece}
use Rattle.ffs_walk.{proofs.Counted.top_unread, specs.{Keepings.replay_in, declared.blocks.Blocks.Blocks}}
use Rattle.ffs_walk.specs.declared.window.Window.{Window}
use Rattle.ffs_workspace.proofs.NoteLaws.{IsOneChunkAt}
use Rattle.ffs_names.specs.{OneChunk.one_chunk_at, Readings.{IsEnded, chunks_in, gap_left, rest}}
use Rattle.ffs_names.specs.{declared.chunks.Chunks.Chunks, RunCursors.reading_by, Shapes.GivesDirectory}
use Rattle.ffs_names.{specs.declared.entries.Entries.Entries, proofs.Advances.{over_rest, over_runs}}
use Rattle.ffs_names.proofs.{DirLaws.dir_parts, EntryCounts.{HoldsBy, at_most, reads_by}, ReadCounts.run_over}

one : (q b : ℕ) → 512 ≤ q * b → q * b < 512 + b → 512 ≤ b → q ≡ 1
one zero b low high big = absurd (omega arith)
one (suc zero) b low high big = refl
one (suc (suc q)) b low high big = absurd (omega arith)

one_block : (v : Layout) → IsAcceptedLayout v → div_ceil 512 v.bsize ≡ 1
one_block v g = grind (arith, div_ceil_times, one)

-- the last block has one fragment
one_fragment : (v : Layout) → IsAcceptedLayout v →
    (if 512 % v.bsize == 0 then v.frag else div_ceil (512 % v.bsize) v.fsize) ≡ 1
one_fragment v g =
    let low = g.sizes.fsize_low in
    let t = div_ceil_times 512 v.fsize (omega arith) in
    let small : 512 % v.bsize ≡ 512 = mod-eq_of_lt (omega (arith, g.sizes.bsize_low)) in
    rw small (one (div_ceil 512 v.fsize) v.fsize t.0 t.1 low)

too_small : (n b : ℕ) → 4096 ≤ b → nat_lt ((12 + n + n * n + n * n * n) * b) 512 ≡ false
too_small n b low = grind (arith, mul-le-mul_right, nat_tests)

pub one_chunk_class : (v : Layout) (a : ℕ) → IsAcceptedLayout v → class_of v (one_chunk_at a) ≡ Dir
unfolding class_of
one_chunk_class v a g = rw (too_small v.nindir v.bsize g.sizes.bsize_low, one_block v g) refl

eqb : (n : ℕ) → (n == 4) ≡ true → n ≡ 4
eqb n h = grind (arith, nat_tests)

-- the steps of a directory of 512 bytes: the one at its first address
steps_are : (v : Layout) (i : Inode) (b : List ℕ) → IsAcceptedLayout v → class_of v i ≡ Dir → i.size ≡ 512
    → steps_of v i b ≡ data_step (record {
      layout = v;
      blocks = 1;
      last_length = if 512 % v.bsize == 0 then v.frag else div_ceil (512 % v.bsize) v.fsize;
    }) (slice_index i.addresses 0) 0 ∷ []
unfolding steps_of steps_at
steps_are v i b g c s = grind (arith, dir_parts, one_block)

-- what is said of its size and its steps is said of those of the inode
pub one_chunk_is : {X : Type 0} (v : Layout) (i : Inode) (b : List ℕ) (a : ℕ) (said : ℕ → List Step → X)
    → IsAcceptedLayout v → IsOneChunkAt (class_of v i) i a
    → said 512 (steps_of v (one_chunk_at a) b) ≡ said i.size (steps_of v i b)
one_chunk_is v i b a said g h = grind (arith, steps_are, one_chunk_class)

-- the entries, and whether the shape is right, by the size and the steps of a directory that isn't cut
abbrev pub entries_by : (v : Layout) (b : List ℕ) (size : ℕ) (steps : List Step) → List RoledEntry
entries_by v b size steps = flat_map roled_chunk
    (chunks_of (reading_by v b (bytes_read size)) (is_run_in_range v) (replayed_steps v 0 fresh_replay steps))

abbrev pub shape_by : (v : Layout) (b : List ℕ) (size : ℕ) (steps : List Step) → Bool
shape_by v b size steps = is_right_size size
    && (are_sound (chunks_of (reading_by v b (bytes_read size)) (is_run_in_range v)
    (replayed_steps v 0 fresh_replay steps))
    && not (has_gap (replayed_steps v 0 fresh_replay steps)))

-- its step, where its address is no hole: a Run of one fragment, which takes one read
one_run : (v : Layout) (a : ℕ) (b : List ℕ) → IsAcceptedLayout v → (a == 0) ≡ false
    → steps_of v (one_chunk_at a) b ≡ Run a 1 (Some 0) ∷ []
one_run v a b g some = grind (arith, steps_are, one_chunk_class, one_fragment)

pub runs_of_one : (v : Layout) (a : ℕ) (b : List ℕ) → IsAcceptedLayout v → (a == 0) ≡ false
    → replayed_runs v 0 fresh_replay (steps_of v (one_chunk_at a) b) ≡ 1
runs_of_one v a b g some = ap (replayed_runs v 0 fresh_replay) (one_run v a b g some)

-- it is kept where the fragment is in range
one_replayed : (v : Layout) (a : ℕ) (b : List ℕ) → IsAcceptedLayout v → (a == 0) ≡ false → is_run_in_range v a 1 ≡ true
    → replayed_steps v 0 fresh_replay (steps_of v (one_chunk_at a) b) ≡ Run a 1 (Some 0) ∷ []
one_replayed v a b g some inside = rw (one_run v a b g some, inside) refl

-- so it has the chunk at its address alone
only_chunk_is : (v : Layout) (a : ℕ) (b : List ℕ) → IsAcceptedLayout v → (a == 0) ≡ false → is_run_in_range v a 1 ≡ true
    → chunks_in v b (one_chunk_at a) 0 ≡ chunk_of v.order 0 (piece (a * v.fsize) 512 b) ∷ []
only_chunk_is v a b g some inside = grind (arith, one_replayed)

-- where nothing of the chunks is left, no read is, and none that was made is needed
pub ended_reads : (b : List ℕ) (s : Bool) (c : Chunks) → IsEnded c → reads_by b s c ≡ 0
ended_reads b s c e = grind (arith, at_most, over_runs, replay_in, top_unread, run_over)

pub ended_held : (s : Bool) (c : Chunks) → IsEnded c → (blocks : Blocks) (w : Window) → HoldsBy blocks w s c
ended_held s c e blocks w = grind arith

-- nor is a chunk or a hole
pub ended_rest : (b : List ℕ) (c : Chunks) → IsEnded c → rest b c ≡ []
ended_rest b c e = rw e.chunks_left refl

pub ended_gap : (b : List ℕ) (c : Chunks) → IsEnded c → false ≡ (c.gap || gap_left b c)
ended_gap b c e = rw (e.gap, over_rest b c.walk e.walk) refl

-- where its only chunk was read, the entries of that are to come
pub gives_only_chunk : {v : Layout} {a : ℕ} {b : List ℕ} {r : Entries} → IsAcceptedLayout v → (a == 0) ≡ false →
    is_run_in_range v a 1 ≡ true → IsEnded r.chunks → r.order ≡ v.order → r.chunk ≡ piece (a * v.fsize) 512 b
    → r.place ≡ 0 → r.index ≡ 0 → r.at_start ≡ true → r.right_so_far ≡ true → GivesDirectory v b (one_chunk_at a) 0 r
gives_only_chunk {v = v} {a = a} {b = b} {r = r} g some inside ended order chunk place index first right =
    grind (arith, only_chunk_is, over_rest, one_replayed)
