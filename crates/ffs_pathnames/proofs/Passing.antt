-- Entries are reported and passed, one after another and chunk by chunk.
use Rattle.std.proofs.Common.{◌≡◌, refl, sym, ap, ◌∙◌, ℕ, ◌<◌, ◌^◌, true, List, [], ◌∷◌, ◌++◌, append_assoc, map}
use Rattle.std.{proofs.{Common.{Option, append-nil, arith, subst, Bool}, lemmas.List.map-append}, specs.List.flat_map}
use Rattle.ffs_volume.specs.{declared.{Layout.Layout, Inode.Inode}, Disk.Areas.is_run_in_range}
use Rattle.ffs_volume.specs.{Laws.Geometry.IsAcceptedLayout, Blocks.{Inodes.inode_of, Steps.steps_of}}
use Rattle.ffs_volume.specs.{Directories.{Volumes.volume_of, Entries.{Chunk, chunks_of}}, Messages.Kinds.of_tree}
use Rattle.ffs_volume.specs.Directories.{Entries.bytes_read, Roles.{Volume, RoledEntry, roled_chunk, roled_entries}}
use Rattle.ffs_volume.specs.{Directories.Roles.is_dir, Encodings.Replay.{cut_at, fresh_replay, replayed_steps}}
use Rattle.ffs_names.{specs.RunCursors.reading_by, proofs.DirLaws.{dir_is, dir_size, dir_seen}}
use Rattle.ffs_workspace.specs.{Leaves.LeavesSurvey, declared.workspace.Workspace.Workspace}
use Rattle.ffs_workspace.proofs.Leaving.{claims_left, survey_left}
use Rattle.ffs_pathnames.{specs.{KnowsAtDirectory.KnowsAtDirectory, Stamps.KeepParts}, proofs.StampLaws.noted_kept}
use Rattle.ffs_pathnames.specs.PassedNames.{PassedNames, after_roled, after_entries, roled_reported, entries_reported}

-- the names that were passed after some entries and others
after_more : (vol : Volume) (s : ℕ) (m : PassedNames) (xs ys : List RoledEntry) → after_entries vol s m (xs ++ ys)
    ≡ after_entries vol s (after_entries vol s m xs) ys
after_more vol s m [] ys = refl
after_more vol s m (x ∷ xs) ys = after_more vol s (after_roled vol s m x) xs ys

-- what is reported of some entries and others
reported_more : (vol : Volume) (s : ℕ) (m : PassedNames) (xs ys : List RoledEntry) →
    entries_reported vol s m (xs ++ ys) ≡ entries_reported vol s m xs ++ entries_reported vol s (after_entries vol s m xs) ys
reported_more vol s m [] ys = refl
reported_more vol s m (x ∷ xs) ys = rw (reported_more vol s (after_roled vol s m x) xs ys) (simp append_assoc)

-- an entry is reported, and the others are to come
pub entry_reported : (vol : Volume) (s : ℕ) (m : PassedNames) {m' : PassedNames} (e : RoledEntry)
    (es es' : List RoledEntry) →
    es ≡ e ∷ es' → after_roled vol s m e ≡ m' →
    map of_tree (entries_reported vol s m es) ≡ map of_tree (entries_reported vol s m (e ∷ []))
    ++ map of_tree (entries_reported vol s m' es')
entry_reported vol s m e es es' is after =
    rw (is, ← after, append-nil (roled_reported vol s m e)) (map-append of_tree (roled_reported vol s m e) _)

-- an entry is passed
pub entry_passed : (vol : Volume) (s : ℕ) {all : PassedNames} (m : PassedNames) {m' : PassedNames} {e : RoledEntry}
    {es es' : List RoledEntry} →
    es ≡ e ∷ es' → after_roled vol s m e ≡ m' → all ≡ after_entries vol s m es → all ≡ after_entries vol s m' es'
entry_passed vol s m is after q = rw (← after) (rw is at q)

-- a chunk is reported, and the others are to come
pub chunk_reported : (vol : Volume) (s : ℕ) (m : PassedNames) {m' : PassedNames} (c : Chunk) (cs cs' : List Chunk) →
    cs ≡ c ∷ cs' → after_entries vol s m (roled_chunk c) ≡ m' →
    map of_tree (entries_reported vol s m (flat_map roled_chunk cs))
    ≡ map of_tree (entries_reported vol s m (roled_chunk c))
    ++ map of_tree (entries_reported vol s m' (flat_map roled_chunk cs'))
chunk_reported vol s m c cs cs' is after = grind (arith, reported_more, map-append)

-- a chunk is passed
pub chunk_passed : (vol : Volume) (s : ℕ) {all : PassedNames} (m : PassedNames) {m' : PassedNames} {c : Chunk}
    {cs cs' : List Chunk} →
    cs ≡ c ∷ cs' → after_entries vol s m (roled_chunk c) ≡ m' →
    all ≡ after_entries vol s m (flat_map roled_chunk cs) → all ≡ after_entries vol s m' (flat_map roled_chunk cs')
chunk_passed vol s m is after q = grind (arith, after_more)

-- an entry is passed, where what is remembered is in the lists of a workspace
pub passes : (vol : Volume) (d : ℕ) (e : RoledEntry) {p p' : List Bool} {s s' : List ℕ} {m : PassedNames} → p' ≡ p →
    s' ≡ s → after_roled vol d (record { flags = p'; stamps = s' }) e ≡ m →
    after_roled vol d (record { flags = p; stamps = s }) e ≡ m
passes vol d e flags stamps law = rw (← flags, ← stamps) law

-- what is known of a workspace's lists stays where they stay
pub knows_on : (v : Layout) (contents contents' : Option (List ℕ)) (old new : Workspace) (d : ℕ) (b : List ℕ) →
    contents' ≡ contents → LeavesSurvey old new → KeepParts old.words.items new.words.items →
    KnowsAtDirectory v contents old d b →
    KnowsAtDirectory v contents' new d b
knows_on v contents contents' old new d b e s keep k = grind (arith, claims_left, survey_left, noted_kept)

-- the entries of all chunks that a reading of a directory gives
pub all_read : (v : Layout) (b : List ℕ) (d : ℕ) (i : Inode) (cut : ℕ) (cs : List Chunk) → IsAcceptedLayout v →
    is_dir (volume_of v b) d ≡ true → i ≡ inode_of v b d → cut ≡ cut_at v b d →
    (i.size < 2 ^ 31 → cs ≡ chunks_of (reading_by v b (bytes_read i.size)) (is_run_in_range v)
    (replayed_steps v cut fresh_replay (steps_of v i b))) → flat_map roled_chunk cs ≡ roled_entries (volume_of v b) d
all_read v b d i cut cs g dir e k read =
    let p = dir_is v b d dir in
    let small : i.size < 2 ^ 31 = subst (λ (x : Inode). x.size < 2 ^ 31) (sym e) (dir_size v (inode_of v b d) p.1) in
    ap (flat_map roled_chunk) (read small) ∙ dir_seen v b d i cut g p.0 e k
