-- What a workspace holds where only its windows have changed, and the lines of an inode by it.
use Rattle.std.proofs.Common.{◌≡◌, ℕ, ℤ, zero, suc, ◌+◌, ◌-◌, ◌<◌, ◌≤◌, Bool, true, false, List, [], ◌||◌}
use Rattle.std.proofs.Common.{if◌then◌else◌, length, map, refl, ap, ◌∙◌, sym, slice_index, vec_len, drop, take, arith}
use Rattle.std.{proofs.Common.SFits, specs.{List.slice_index_or, Int.w16, declared.{alloc.Global.Global, vec.Vec.Vec}}}
use Rattle.std.proofs.lemmas.{Bool.Decides.nat_tests, List.{get_or-drop, get_or-take, length-drop, length-take-le}}
use Rattle.std.proofs.lemmas.{List.get_or_read, Int.to_z_pos, Bool.{and_parts, cases_lt, eqb-true}}
use Rattle.ffs_survey.specs.Survey.{suspect_at}
use Rattle.ffs_volume.specs.declared.{Attr.Attr, Inode.Inode, Label.Label, Layout.Layout}
use Rattle.ffs_volume.specs.{declared.constants.TheConstants.LINKS_MET, Directories.Connectivity.is_dead}
use Rattle.ffs_volume.specs.{Encodings.Links.{links_start, start_at}, Blocks.Inodes.{inode_of, inode_from_bytes}}
use Rattle.ffs_volume.specs.{Blocks.Inodes.{is_allocated, inodes_of}, Directories.PathnameCheck.attributes}
use Rattle.ffs_volume.specs.Directories.{PathnameCheck.{attributes_of, label_of}, ReferenceCheck.inode_reference_lines}
use Rattle.ffs_volume.specs.Directories.{ReferenceCheck.{reference_lines, reference_lines_at}, Roles.is_allocated_inode}
use Rattle.ffs_volume.specs.Directories.{Roles.{is_inode, references}, Volumes.{class_at, marked_at, volume_of}}
use Rattle.ffs_volume.specs.{Directories.Volumes.volume_with, Disk.Numbers.i16_at, Encodings.Kinds.kind_at}
use Rattle.ffs_volume.specs.{Encodings.Kinds.{class_of_kind, is_empty_dir_kind}, Messages.Kinds.{Message, TreeMessage}}
use Rattle.ffs_volume.{specs.Messages.Kinds.{of_tree, lines_from}, proofs.{LinkLaws.links_met, Numbered.all_from}}
use Rattle.ffs_workspace.specs.{declared.workspace.Workspace.Workspace, Holds.{HoldsBlockCheck, HoldsFindings, bool_at}}
use Rattle.ffs_workspace.proofs.KindLaws.{suspect_is, some_is}
use Rattle.ffs_counts.{specs.References.{reference_reported, is_dead_by, is_right_by}, proofs.Classes.same_test}

pub held_on : (old mid new : Workspace) → mid ≡ record old { windows = mid.windows } →
    new ≡ record mid { windows = new.windows } → new ≡ record old { windows = new.windows }
held_on old mid new e f = f ∙ ap (λ (w : Workspace). record w { windows = new.windows }) e

-- what a list with a place for each inode has of one
pub item_at : {X : Type 0} (list : Vec X Global) (i n : ℕ) (x d : X) → x ≡ slice_index_or list.items i x → i < n →
    vec_len list ≡ n → x ≡ slice_index_or list.items i d
item_at list i n x d e low len = get_or_read list.items i x (omega (arith, list.ok.0)) e d

-- whether an inode is allocated, by the kind that a workspace holds
allocated_is : (v : Layout) (b : List ℕ) (w : Workspace) (i : ℕ) → HoldsBlockCheck v b w →
    is_allocated_inode (volume_of v b) i ≡ is_allocated (class_of_kind (slice_index w.kinds.items i))
allocated_is v b w i h = grind (arith, some_is)

pub no_lines : (v : Layout) (b : List ℕ) (w : Workspace) (i : ℕ) → HoldsBlockCheck v b w →
    is_allocated (class_of_kind (slice_index w.kinds.items i)) ≡ false → reference_lines_at (volume_of v b) i ≡ []
no_lines v b w i h e = ap (λ t. if t then inode_reference_lines (volume_of v b) i else []) (allocated_is v b w i h ∙ e)

pub some_lines : (v : Layout) (b : List ℕ) (w : Workspace) (i : ℕ) → HoldsBlockCheck v b w →
    is_allocated (class_of_kind (slice_index w.kinds.items i)) ≡ true →
    inode_reference_lines (volume_of v b) i ≡ reference_lines_at (volume_of v b) i
some_lines v b w i h e = grind (arith, allocated_is)

-- where the count of an allocated inode starts
start_used : (v : Layout) (b : List ℕ) (w : Workspace) (i : ℕ) → HoldsBlockCheck v b w →
    is_allocated (class_of_kind (slice_index w.kinds.items i)) ≡ true →
    start_at v b i ≡ links_start (inode_of v b i).nlink
unfolding start_at volume_of volume_with
start_used v b w i h used =
    let both = and_parts (is_inode (volume_of v b) i) (is_allocated (class_at v b i)) (allocated_is v b w i h ∙ used) in
    ap (λ (t : Bool). if t then links_start (inode_of v b i).nlink else 0) both.1

-- how often an allocated inode is referred to
references_are : (v : Layout) (b : List ℕ) (w : Workspace) (i : ℕ) → i < inodes_of v → HoldsFindings v b w →
    is_allocated (class_of_kind (slice_index w.kinds.items i)) ≡ true →
    slice_index w.references.items i ≡ links_start (inode_of v b i).nlink + references (volume_of v b) i
references_are v b w i low h used = grind (arith, start_used)

pub inode_reference_lines_are : (v : Layout) (b : List ℕ) (w : Workspace) (i : ℕ) (inode : Inode) (dead : Bool)
    (r : ℕ) →
    i < inodes_of v
    → HoldsFindings v b w → is_allocated (class_of_kind (slice_index w.kinds.items i)) ≡ true →
    inode ≡ inode_of v b i → dead ≡ is_dead_by w i →
    r ≡ slice_index w.references.items i - links_start inode.nlink →
    inode_reference_lines (volume_of v b) i ≡ reference_reported dead (bool_at w.marked.items i)
    (label_of (class_of_kind (slice_index w.kinds.items i))) (attributes_of i inode) inode.nlink r
unfolding inode_reference_lines attributes volume_of volume_with
inode_reference_lines_are v b w i inode dead r low f used is e refs =
    let h = f.block_check in
    let suspect : (bool_at w.marked.items i || is_empty_dir_kind (slice_index w.kinds.items i))
    ≡ (marked_at v b i || is_empty_dir_kind (kind_at v b i)) = grind arith in
    let is_dead_is : dead ≡ is_dead (volume_of v b) i = grind (arith, suspect_is) in
    let label : label_of (class_of_kind (slice_index w.kinds.items i)) ≡ label_of (class_at v b i) =
    ap (λ k. label_of (class_of_kind k)) (h.kinds i) ∙ same_test label_of refl v b i in
    grind (arith, references_are)

-- some numbers have no lines: those of the numbers from d on are those of the numbers after them
skip_none : (lines : ℕ → List TreeMessage) (k d n : ℕ) → ((j : ℕ) → j < k → lines (d + j) ≡ []) →
    lines_from lines d (k + n) ≡ lines_from lines (d + k) n
unfolding lines_from
skip_none lines zero d n none = grind arith
skip_none lines (suc k) d n none =
    let z : d ≡ d + 0 = omega arith in
    let first : lines d ≡ [] = ap lines z ∙ none 0 (omega arith) in
    let rest : lines_from lines (suc d) (k + n) ≡ lines_from lines (suc d + k) n = skip_none lines k (suc d) n
    (λ j h. let q : suc d + j ≡ d + suc j = omega arith in ap lines q ∙ none (suc j) (omega (arith, h))) in
    let at : suc d + k ≡ d + suc k = omega arith in
    let more : suc k + n ≡ suc (k + n) = omega arith in
    grind arith

-- the lines of inodes from one on
abbrev pub lines_after : Layout → ℕ → List ℕ → List Message
lines_after v n bytes = map of_tree (lines_from (reference_lines_at (volume_of v bytes)) n (inodes_of v - n))

pub lines_begin : (v : Layout) (b : List ℕ) → map of_tree (reference_lines (volume_of v b)) ≡ lines_after v 0 b
unfolding reference_lines volume_of volume_with
lines_begin v b = grind (arith, all_from)

-- where each link has its reference, nothing is reported
pub met_lines : (v : Layout) (b : List ℕ) (w : Workspace) (i : ℕ) → i < inodes_of v → HoldsFindings v b w →
    is_allocated (class_of_kind (slice_index w.kinds.items i)) ≡ true → is_right_by w i ≡ true →
    reference_lines_at (volume_of v b) i ≡ []
met_lines v b w i low f used met =
    let inode = inode_of v b i in
    let counted = references_are v b w i low f used in
    let links = links_met inode.nlink (references (volume_of v b) i) in
    let lines = inode_reference_lines_are v b w i inode (is_dead_by w i) (references (volume_of v b) i) low f used refl
    refl in
    let whole = some_lines v b w i f.block_check used in
    grind (arith, eqb-true)

-- a number whose element is in a part of a list of which each is `LINKS_MET`
pub met_in : (counts : List ℕ) (first x : ℕ) → first + 64 ≤ length counts → first ≤ x → x < first + 64 →
    ((k : ℕ) → k < length (take (first + 64 - first) (drop first counts)) →
    slice_index (take (first + 64 - first) (drop first counts)) k ≡ LINKS_MET) → slice_index counts x ≡ LINKS_MET
met_in counts first x long low high met =
    let n = first + 64 - first in
    let at : x ≡ first + (x - first) = omega (arith, low) in
    let left = length-drop first counts in
    let all = length-take-le n (drop first counts) (omega (arith, left, long)) in
    ap (slice_index counts) at ∙ sym (get_or-drop first counts (x - first) 0)
    ∙ sym (get_or-take n (drop first counts) (x - first) 0 (omega (arith, low, high)))
    ∙ met (x - first) (omega (arith, all, low, high))

-- an inode that isn't suspect is right where its count is `LINKS_MET`
pub right_met : (w : Workspace) (x : ℕ) → slice_index w.references.items x ≡ LINKS_MET →
    suspect_at w.kinds.items w.marked.items x ≡ false → is_right_by w x ≡ true
right_met w x met alive = rw (met, alive) refl

-- an inode that isn't allocated, or is right, has no line
silent_by : (v : Layout) (b : List ℕ) (w : Workspace) (i : ℕ) (used : Bool) → i < inodes_of v → HoldsFindings v b w →
    is_allocated (class_of_kind (slice_index w.kinds.items i)) ≡ used →
    (is_allocated (class_of_kind (slice_index w.kinds.items i)) ≡ true → is_right_by w i ≡ true) →
    reference_lines_at (volume_of v b) i ≡ []
silent_by v b w i false low f e right = no_lines v b w i f.block_check e
silent_by v b w i true low f e right = met_lines v b w i low f e (right e)

-- the inodes that are passed over have no lines
pub none_passed : (v : Layout) (b : List ℕ) (w : Workspace) (d k : ℕ) → HoldsFindings v b w →
    ((j : ℕ) → j < k → is_allocated (class_of_kind (slice_index w.kinds.items (d + j))) ≡ true →
    is_right_by w (d + j) ≡ true) → d + k ≤ inodes_of v → (x : ℕ) → d ≤ x → x < d + k →
    reference_lines_at (volume_of v b) x ≡ []
none_passed v b w d k f right low x from below =
    let q : d + (x - d) ≡ x = omega arith in
    rw q at (silent_by v b w (d + (x - d)) _ (omega arith) f refl (right (x - d) (omega arith)))

pub passed_lines : (v : Layout) (b : List ℕ) (w : Workspace) (d k n : ℕ) → HoldsFindings v b w →
    ((j : ℕ) → j < k → is_allocated (class_of_kind (slice_index w.kinds.items (d + j))) ≡ true →
    is_right_by w (d + j) ≡ true) → d + k ≤ n → n ≡ inodes_of v →
    map of_tree (lines_from (reference_lines_at (volume_of v b)) d (n - d))
    ≡ map of_tree (lines_from (reference_lines_at (volume_of v b)) (d + k) (n - (d + k)))
passed_lines v b w d k n f right low all =
    let lines = reference_lines_at (volume_of v b) in
    let q : n - d ≡ k + (n - (d + k)) = omega (arith, low) in
    let none : (j : ℕ) → j < k → lines (d + j) ≡ [] = λ j h.
    none_passed v b w d k f right (omega (arith, low, all)) (d + j) (omega arith) (omega (arith, h)) in
    ap (map of_tree) (ap (lines_from lines d) q ∙ skip_none lines k d (n - (d + k)) none)

-- ---- an inode that is dead, or has other references than links
-- an inode that isn't right by the lists of a workspace has a line, whatever is read of it
pub unmet_reported : (w : Workspace) (i : ℕ) (m : Bool) (label : Label) (attr : Attr) (nlink : ℤ) (dead : Bool)
    (count r : ℕ) → is_right_by w i ≡ false → dead ≡ is_dead_by w i → count ≡ slice_index w.references.items i →
    r ≡ count - links_start nlink → SFits w16 nlink →
    length (reference_reported dead m label attr nlink r) ≡ 1
unmet_reported w i m label attr nlink dead count r unmet ed ec er fits = grind arith

-- a count of links has two bytes
links_fit : (v : Layout) (b : List ℕ) (i : ℕ) → SFits w16 (inode_of v b i).nlink
unfolding inode_of inode_from_bytes i16_at
links_fit v b i = grind (arith, cases_lt, to_z_pos, nat_tests)

-- so an allocated inode that isn't right by these lists has one line
pub unmet_line : (v : Layout) (b : List ℕ) (w : Workspace) (i : ℕ) → i < inodes_of v → HoldsFindings v b w →
    is_allocated (class_of_kind (slice_index w.kinds.items i)) ≡ true → is_right_by w i ≡ false →
    length (reference_lines_at (volume_of v b) i) ≡ 1
unmet_line v b w i low f used unmet =
    let r = references (volume_of v b) i in
    let counted = references_are v b w i low f used in
    let refs : r ≡ slice_index w.references.items i - links_start (inode_of v b i).nlink = omega (arith, counted) in
    ap length (sym (some_lines v b w i f.block_check used)
    ∙ inode_reference_lines_are v b w i (inode_of v b i) (is_dead_by w i) r low f used refl refl refs)
    ∙ unmet_reported w i _ _ _ _ _ _ r unmet refl refl refs (links_fit v b i)
