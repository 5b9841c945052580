use Rattle.std.proofs.Common.{arith, ◌≡◌, ◌<◌, ◌≤◌, ◌∙◌, ℕ, true, List, ap, refl, sym, subst, slice_index}
use Rattle.std.proofs.lemmas.Result.{err_from_is_err_and}
use Rattle.ffs_names.{proofs.{DirCosts.{cost_is}, DirLaws.{dir_is, dir_size, dir_seen}}, specs.Entering.to_come}
use Rattle.ffs_names.specs.{Entering.last_name, Costs.reads_for_entries, Shapes.BeginsDirectory}
use Rattle.ffs_names.specs.declared.entries.Entries.{Entries}
use Rattle.ffs_volume.specs.{Costs.DirectoryReads.directory_runs, declared.{Inode.Inode, Layout.Layout}}
use Rattle.ffs_volume.specs.{Blocks.Inodes.inode_of, Laws.Geometry.IsAcceptedLayout, Directories.Roles.is_dir}
use Rattle.ffs_volume.specs.{Directories.{Roles.roled_entries, Volumes.volume_of}, Encodings.Notes.cut_in}
use Rattle.ffs_survey.specs.Reading.{roled_of}
use Rattle.ffs_workspace.specs.{Holds.HoldsBlockCheck, declared.workspace.Workspace.Workspace}
use Rattle.ffs_workspace.proofs.NoteLaws.{cut_is_noted}
use Rattle.ffs_paths.{specs.Climbing.name_in, proofs.{Keeping.chunk_then, WaysUp.name_in-by}}
use Rattle.ffs_paths.proofs.name.search_name.Goals as goal

-- all entries of the parent are still to come
begun : {v : Layout} {b : List ℕ} {w : Workspace} {i : Inode} {cut : ℕ} {r : Entries} (p : ℕ) → IsAcceptedLayout v →
    HoldsBlockCheck v b w → is_dir (volume_of v b) p ≡ true → i ≡ inode_of v b p →
    cut ≡ cut_in (slice_index w.notes.items p)
    → BeginsDirectory v i cut r → roled_entries (volume_of v b) p ≡ to_come b r
begun {v = v} {b = b} {i = i} {cut = cut} p sound claims dir inode noted begins =
    let is = dir_is v b p dir in
    sym ((begins.gives b (subst (λ (n : Inode). n.size < 2147483648) (sym inode) (dir_size v (inode_of v b p) is.1))).entries
    ∙ dir_seen v b p i cut sound is.0 inode (noted ∙ (ap cut_in (claims.notes p) ∙ cut_is_noted v b p sound)))

-- and none of its Runs is read yet
runs_begun : {v : Layout} {b : List ℕ} {w : Workspace} {i : Inode} {cut : ℕ} {r : Entries} (p : ℕ) → IsAcceptedLayout v →
    HoldsBlockCheck v b w → i ≡ inode_of v b p → cut ≡ cut_in (slice_index w.notes.items p) →
    BeginsDirectory v i cut r → reads_for_entries b r ≤ directory_runs v b p
runs_begun {v = v} {b = b} {i = i} {cut = cut} p sound claims inode noted begins = grind (arith, cut_is_noted)

pub returns-then-is_naming-clause-name : goal.returns-then-is_naming-clause-name
returns-then-is_naming-clause-name g c = λ b t claims survey is dir.
    let i = c.entries.invariant in
    let o = rw c.in-Some.is at c.in_ok-entry.ensures.entry in
    c.set.ensures ∙ (c.name.ensures ∙ sym (ap (name_in c.args.dir) (begun c.args.parent c.args.geometry.now.sound
    claims dir (c.in_ok-inode.ensures.inode.reads.inode b t) c.noted_cut-cut.ensures c.start-entries.ensures.begins)
    ∙ (i.name b t ∙ (ap (name_in c.args.dir) (o b (ap (λ d. d.contents) i.reads.read ∙ t)).entries
    ∙ name_in-by c.args.dir (roled_of c.in-Some.entry (last_name c.next.new.self)) (to_come b c.next.new.self)
    (sym c.is_naming.ensures ∙ c.if-is_naming.true)))))

-- no entry is left
pub returns-clause-name : goal.returns-clause-name
returns-clause-name g c = λ b t claims survey is dir.
    let i = c.entries.invariant in
    let o = rw c.in_default.is at c.in_ok-entry.ensures.entry in
    i.none ∙ sym (ap (name_in c.args.dir) (begun c.args.parent c.args.geometry.now.sound
    claims dir (c.in_ok-inode.ensures.inode.reads.inode b t) c.noted_cut-cut.ensures c.start-entries.ensures.begins)
    ∙ (i.name b t ∙ ap (name_in c.args.dir) (o b (ap (λ d. d.contents) i.reads.read ∙ t)).entries))

pub entries-init : goal.entries-init
entries-init g c = record {
  name = λ b t. refl;
  none = c.clear.ensures;
  geometry = c.start-entries.ensures.geometry;
  reads = grind arith;
  counted = λ b k.
      let begins = c.start-entries.ensures.begins in
      let few = runs_begun c.args.parent c.args.geometry.now.sound k.1 (c.in_ok-inode.ensures.inode.reads.inode b k.0)
      c.noted_cut-cut.ensures begins in
      (omega (arith, c.inode_by_piece.ensures.inode.counted, few), begins.held _ _);
}

pub entries-preserved : goal.entries-preserved
entries-preserved g c =
    let i = c.entries.invariant in
    let next = c.in_ok-entry.ensures in
    let o = rw c.in-Some.is at next.entry in
    record {
      name = λ b t. i.name b t
          ∙ (ap (name_in c.args.dir) (o b (ap (λ d. d.contents) i.reads.read ∙ t)).entries
          ∙ name_in-by c.args.dir (roled_of c.in-Some.entry (last_name c.next.new.self)) (to_come b c.next.new.self)
          (sym c.is_naming.ensures ∙ c.if-is_naming.false));
      none = i.none;
      geometry = next.leaves.geometry ∙ i.geometry;
      reads = chunk_then i.reads (rw i.geometry at next.leaves.ready) next.leaves.read;
      counted = λ b k.
          let took = next.reads (i.counted b k).1 b (ap (λ d. d.contents) i.reads.read ∙ k.0) in
          (omega (arith, (i.counted b k).0, took.paid), took.held);
    }

pub returns-then-is_naming-clause-reads : goal.returns-then-is_naming-clause-reads
returns-then-is_naming-clause-reads g c =
    let i = c.entries.invariant in
    let next = c.in_ok-entry.ensures in
    chunk_then i.reads (rw i.geometry at next.leaves.ready) next.leaves.read

pub returns-clause-reads : goal.returns-clause-reads
returns-clause-reads g c = grind arith

-- a read failed
pub returns-in_err-entry-clause-reads : goal.returns-in_err-entry-clause-reads
returns-in_err-entry-clause-reads g c = grind (arith, err_from_is_err_and, chunk_then)

-- how often it was read
pub returns-then-is_naming-clause-counted : goal.returns-then-is_naming-clause-counted
returns-then-is_naming-clause-counted g c = λ b k is.
    let i = c.entries.invariant in
    let took = c.in_ok-entry.ensures.reads (i.counted b k).1 b (ap (λ d. d.contents) i.reads.read ∙ k.0) in
    omega (arith, (i.counted b k).0, took.most, cost_is c.args.geometry.now.layout b c.args.parent is)

pub returns-clause-counted : goal.returns-clause-counted
returns-clause-counted g c = λ b k is.
    let i = c.entries.invariant in
    let took = c.in_ok-entry.ensures.reads (i.counted b k).1 b (ap (λ d. d.contents) i.reads.read ∙ k.0) in
    omega (arith, (i.counted b k).0, took.most, cost_is c.args.geometry.now.layout b c.args.parent is)

pub returns-in_err-entry-clause-counted : goal.returns-in_err-entry-clause-counted
returns-in_err-entry-clause-counted g c = λ b k is.
    let i = c.entries.invariant in
    let took = c.in_err-entry.ensures.reads (i.counted b k).1 b (ap (λ d. d.contents) i.reads.read ∙ k.0) in
    omega (arith, (i.counted b k).0, took.most, cost_is c.args.geometry.now.layout b c.args.parent is)
