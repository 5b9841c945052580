-- What a line shows was gathered over an image with a limit: what of the image below was read.
use Rattle.std.{specs.Borrow.GName, proofs.Common.{◌≡◌, ◌+◌, ◌≤◌, ℕ, sym, ap, subst, ◌∙◌, arith, Bool, true, false}}
use Rattle.std.proofs.{Common.{List, Result, Ok, Err}, lemmas.Bool.both_ways}
use Rattle.ffs_workspace.specs.{Moments.WorkMoment, declared.workspace.Workspace.Workspace, Ready.CanRead}
use Rattle.ffs_workspace.proofs.Readiness.{can_read_same}
use Rattle.ffs_image.specs.{Device.Device, declared.image.ImageFault.ImageFault, Limited.{GivesBackLent, lent_at}}
use Rattle.ffs_image.{specs.Limited.limited_device, proofs.Limits.{ServedBy, read_over, served}}
use Rattle.ffs_volume.specs.declared.Layout.{Layout}
use Rattle.ffs_paths.specs.{Reads.{KnowsPlaces, OnlyReads, ReadsAtMost}, KeptParents.{HoldsKeptParent, KeptMoment}}
use Rattle.ffs_paths.specs.{KeptParents.{PathLeaves, SparesReads}, declared.kept_parent.KeptParent.KeptParent}
use Rattle.ffs_pathnames.{specs.{KnowsAtDirectory.KnowsAtDirectory, Ready.LimitedPathLeaves}, proofs.LineCounts.knows_places}

-- the moment at which an image, how often it was read, and a workspace are these; and what is kept of a parent
abbrev path_at : Device → ℕ → Workspace → WorkMoment
path_at d reads w = record { image = d; reads = reads; workspace = w }

abbrev kept_at : Device → ℕ → Workspace → KeptParent → KeptMoment
kept_at d reads w s = record { at = path_at d reads w; kept = s }

-- what was gathered over a limited image leaves of the image below and of the workspace; where a
-- read was refused, what is kept of the parent is forgotten
pub record IsGathered {T : Type 0} (n : ℕ) (v : Layout) (d d' : Device) (name_lent name : GName) (count count' : ℕ)
    (w w' : Workspace) (s : KeptParent) (spent : Bool) (r : Result T ImageFault) : Type 0 where
  pub same_image : name_lent ≡ name
  pub all : (b : List ℕ) (x : ℕ) → KnowsAtDirectory v d.contents w x b → spent ≡ true → ⊥
  pub leaves : spent ≡ false → LimitedPathLeaves v n (path_at d count w) (path_at d' count' w') s r
  pub forgets : spent ≡ true → (x : T) (s' : KeptParent) → HoldsKeptParent v d'.contents w' s'
      → LimitedPathLeaves v n (path_at d count w) (path_at d' count' w') s' (Ok x)

-- the image below gives what the one above does
module _ {T : Type 0} {v : Layout} {d d' l' : Device} {w w' : Workspace} {name_lent name : GName}
    {reads reads' limit asked : ℕ} {spent : Bool} {r : Result T ImageFault}
    (back : ServedBy d d' name_lent name reads reads' limit asked spent r) where
  ready_below : OnlyReads v (limited_device d name_lent reads limit) l' w w' r → CanRead v d' w'
  ready_below o =
      let above = read_over (limited_device d name_lent reads limit) l' r o.read in
      can_read_same v l' d' w' (back.contents ∙ sym above.contents) (back.size ∙ sym above.size) o.ready

path_below : {T : Type 0} {n count count' before asked : ℕ} {v : Layout} {d d' l' : Device} {w w' : Workspace}
    {s : KeptParent} {name_lent name : GName} {limit : ℕ} {spent : Bool} (r : Result T ImageFault) →
    ServedBy d d' name_lent name count count' limit asked spent r → spent ≡ false →
    ReadsAtMost v n (path_at d count w) (path_at d' count' w') →
    PathLeaves v n (path_at (limited_device d name_lent count limit) before w) (path_at l' asked w') s r
    → PathLeaves v n (path_at d count w) (path_at d' count' w') s r
path_below (Ok x) back none few p = grind (arith, subst, ap)
path_below (Err f) back none few p = grind arith

-- by the contracts of the part and of the limited image
pub gathered : {T : Type 0} {v : Layout} {d d' l l' : Device} {w w' : Workspace} {s : KeptParent}
    {name_lent name : GName} {reads reads' limit left before asked n : ℕ} {spent : Bool} {r : Result T ImageFault} →
    l ≡ limited_device d name_lent reads limit → before ≡ 0 → limit ≡ n →
    PathLeaves v n (path_at l before w) (path_at l' asked w') s r →
    GivesBackLent (lent_at d' name reads' left) asked spent l' →
    IsGathered n v d d' name_lent name reads reads' w w' s spent r
gathered {v = v} {d = d} {d' = d'} {w = w} {w' = w'} {name_lent = lent} {name = name} {reads = reads}
    {reads' = reads'} {limit = limit} {asked = asked} {n = n} {spent = spent} {r = r} over begins price p back =
    let path = rw over at p in
    let below : ServedBy d d' lent name reads reads' limit asked spent r = served path.reads.read back in
    let most : reads' ≤ reads + n = rw (← price) below.most in
    let few : ReadsAtMost v n (path_at d reads w) (path_at d' reads' w') = λ b k. record
    { count = most; blocks = (path.counted b k).blocks } in
    record {
      same_image = below.same_image;
      all = λ b x k refused.
          let count = (path.counted b (knows_places v d.contents w x b k k.noted)).count in
          both_ways _ (below.few (omega (arith, count, begins, price))) refused;
      leaves = λ none. record { path = path_below r below none few path; most = most };
      forgets = λ refused x s' kept. record {
        path = record {
          reads = record {
            lists = path.reads.lists;
            current = path.reads.current;
            ready = ready_below below path.reads;
            read = below.refused refused;
          };
          counted = few;
          kept_parent = kept;
        };
        most = most;
      };
    }

-- a path spared as many reads of the image below
pub spared : {T : Type 0} {v : Layout} {d d' l l' : Device} {w w' : Workspace} {s s' s'' : KeptParent}
    {name_lent name : GName} {reads reads' limit left before asked n x : ℕ} {spent : Bool} {r : Result T ImageFault} →
    l ≡ limited_device d name_lent reads limit → before ≡ 0 →
    PathLeaves v n (path_at l before w) (path_at l' asked w') s'' r →
    GivesBackLent (lent_at d' name reads' left) asked spent l' →
    SparesReads v x (kept_at l before w s) (kept_at l' asked w' s'') →
    SparesReads v x (kept_at d reads w s) (kept_at d' reads' w' s')
spared {v = v} {d = d} {d' = d'} {l = l} {w = w} {name_lent = lent} {name = name} {reads = reads} {reads' = reads'}
    {limit = limit} {asked = asked} {spent = spent} {r = r} over begins p back spares =
    let path = rw over at p in
    let below : ServedBy d d' lent name reads reads' limit asked spent r = served path.reads.read back in
    let few = below.as_asked in
    let known : (b : List ℕ) → KnowsPlaces v d.contents w b → KnowsPlaces v l.contents w b = λ b k.
    subst (λ contents. KnowsPlaces v contents w b) (sym (ap (λ (q : Device). q.contents) over)) k in
    record {
      names = λ b k. let most = spares.names b (known b k) in omega (arith, begins, few, most);
      kept = λ b p k of has. let most = spares.kept b p (known b k) of has in omega (arith, begins, few, most);
      again = λ b p k of has held.
          let most = spares.again b p (known b k) of has held in
          omega (arith, begins, few, most);
    }
