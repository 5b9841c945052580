-- What reads, claims and reports leave of a workspace whose windows hold what the image gives.
use Rattle.std.proofs.Common.{◌≡◌, ℕ, Bool, refl, ap, arith, length, length-set, slice_set, subst, false, Result, zero}
use Rattle.std.proofs.{Common.{suc, ◌+◌, ◌||◌, true, List, inl, inr, vec_len}, lemmas.{Bool.cases_lt, List.get_or_past}}
use Rattle.std.specs.declared.{alloc.Global.Global, vec.Vec.Vec}
use Rattle.ffs_volume.{specs.declared.{Class.Class, Inode.Inode, Layout.Layout}, proofs.Flags.set_kept}
use Rattle.ffs_image.specs.Device.{Device}
use Rattle.ffs_report.specs.{PhaseOutcome.ImageAfter, declared.fault.RunFault.RunFault}
use Rattle.ffs_layout.specs.declared.geometry.Geometry.{Geometry}
use Rattle.ffs_maps.specs.{Bits.{ClaimsRun, bits_of, set_run}, Reserved.with_reserved, declared.FragmentMap.FragmentMap}
use Rattle.ffs_maps.proofs.ReservedBits.{get_with}
use Rattle.ffs_walk.specs.{Windows.{CanWalk, KeepsBlocks}, declared.blocks.Blocks.Blocks}
use Rattle.ffs_workspace.specs.{Holds.IsFresh, Lengths.IsFor, Ready.CanRead, declared.workspace.Workspace.Workspace}
use Rattle.ffs_claims.specs.Leaves.{SameFound, ClaimsAndFinds, ClaimsOnly, Stored, OffersOnly, StaySet}
use Rattle.ffs_claims.specs.Reporting.{Phase1bKeeps, ReportsOnly, OffersReportedOnly}

-- ---- flags that stay set
pub stay : (bits : List Bool) → StaySet bits bits
stay bits = record { flags = λ f h. h }

pub stay_then : {a b c : List Bool} → StaySet a b → StaySet b c → StaySet a c
stay_then p q = record { flags = λ f h. q.flags f (p.flags f h) }

pub stay_one : (bits : List Bool) (g : ℕ) → StaySet bits (slice_set bits g true)
stay_one bits g = record { flags = set_kept bits g }

stay_run : (bits : List Bool) (start len : ℕ) → StaySet bits (set_run bits start len)
stay_run bits start zero = stay bits
stay_run bits start (suc len) = stay_then (stay_one bits start) (stay_run (slice_set bits start true) (start + 1) len)

-- where a run is claimed, or isn't
pub stay_claimed : {old new : FragmentMap} {start len : ℕ} {b : Bool} → ClaimsRun old new start len b →
    StaySet (bits_of old) (bits_of new)
stay_claimed {old = old} {start = start} {len = len} {b = true} c =
    rw (c.claimed refl) (stay_run (bits_of old) start len)
stay_claimed {old = old} {b = false} c = rw (c.unchanged refl) (stay (bits_of old))

-- and where the reserved ones are set
pub or_true : (b : Bool) → (b || true) ≡ true
or_true true = refl
or_true false = refl

pub stay_reserved : (v : Layout) (bits : List Bool) → length bits ≡ v.size → StaySet bits (with_reserved v bits)
stay_reserved v bits long = record { flags = grind (arith, cases_lt, get_with, or_true, get_or_past) }

-- ---- frames
pub found_none : (w : Workspace) → SameFound w w
found_none w = record { only = refl; used = stay (bits_of w.used); duplicates = stay (bits_of w.duplicates) }

pub claims_none : (w : Workspace) → Phase1bKeeps w w
claims_none w = grind arith

pub claims_then : {u v w : Workspace} → Phase1bKeeps u v → Phase1bKeeps v w → Phase1bKeeps u w
claims_then p q = grind arith

pub changes_then : {u v w : Workspace} → ClaimsAndFinds u v → ClaimsAndFinds v w → ClaimsAndFinds u w
changes_then p q =
    let used = stay_then p.used q.used in
    let duplicates = stay_then p.duplicates q.duplicates in
    grind arith

pub zeros_passed : {u w : Workspace} → ClaimsAndFinds u w →
    ClaimsAndFinds u (record w { bad = 0; dup_offers = 0; kept = 0; tail = false })
zeros_passed p = grind arith

pub only_then : {l : Layout} {u v w : Workspace} → ClaimsOnly l u v → ClaimsOnly l v w → ClaimsOnly l u w
only_then p q =
    let used = stay_then p.found.used q.found.used in
    let duplicates = stay_then p.found.duplicates q.found.duplicates in
    grind arith

-- an offer that changes the map of claims, or none, and the count of kept offers
pub offers_claimed : {l : Layout} {w : Workspace} {map : FragmentMap} {kept : ℕ} → IsFor l w → map.size ≡ w.used.size
    → StaySet (bits_of w.used) (bits_of map) → OffersOnly l w (record w { used = map; kept = kept })
offers_claimed {w = w} m size used = let duplicates = stay (bits_of w.duplicates) in grind arith

pub offers_then : {l : Layout} {u v w : Workspace} → OffersOnly l u v → OffersOnly l v w → OffersOnly l u w
offers_then p q = let only = only_then p.claiming q.claiming in grind arith

pub reports_none : {l : Layout} {w : Workspace} → IsFor l w → ReportsOnly l w w
reports_none {w = w} made = record { made = made; windows = refl; stays = claims_none w }

pub offers_reported_none : {l : Layout} {w : Workspace} → IsFor l w → OffersReportedOnly l w w
offers_reported_none made = record { reporting = reports_none made; runs = refl }

pub offers_reported_then : {l : Layout} {u v w : Workspace} → OffersReportedOnly l u v → OffersReportedOnly l v w →
    OffersReportedOnly l u w
offers_reported_then p q = grind arith

-- they hold it still where they are as they were
pub ready_still : {l : Layout} {d : Device} {u w : Workspace} → IsFor l w → w.windows ≡ u.windows → CanRead l d u →
    CanRead l d w
ready_still made e r = grind arith

-- a walk can be gone on with
pub can_walk : {g k : Geometry} {d : Device} {w : Workspace} → k ≡ g → CanRead g.layout d w →
    CanWalk k.layout d w.windows.blocks
can_walk same r = grind arith

-- and where a walk read an indirect block, or couldn't
pub ready_read : {g k : Geometry} {d d' : Device} {w : Workspace} {b : Blocks} → d'.contents ≡ d.contents →
    d'.size ≡ d.size → k ≡ g → KeepsBlocks k.layout d'.contents w.windows.blocks b → CanRead g.layout d w →
    CanRead g.layout d' (record w { windows = record w.windows { blocks = b } })
ready_read e size same kept r = grind arith

pub ready_walked : {g k : Geometry} {d d' : Device} {w : Workspace} {b : Blocks} → d' ≡ d → k ≡ g →
    KeepsBlocks k.layout d'.contents w.windows.blocks b → CanRead g.layout d w →
    CanRead g.layout d' (record w { windows = record w.windows { blocks = b } })
ready_walked e same kept r = ready_read (ap (λ x. x.contents) e) (ap (λ x. x.size) e) same kept r

-- they hold it whatever is surveyed, and so is what is fresh
pub ready_surveyed : {l : Layout} {d : Device} {w : Workspace} {surveyed : Bool} → CanRead l d w →
    CanRead l d (record w { surveyed = surveyed })
ready_surveyed r = grind arith

pub fresh_surveyed : {l : Layout} {w : Workspace} {surveyed : Bool} → IsFresh l w →
    IsFresh l (record w { surveyed = surveyed })
fresh_surveyed r = grind arith

-- they hold it where the count of Runs starts again
pub ready_again : {l : Layout} {d : Device} {u w : Workspace} → w ≡ record u { runs_again = 0 } → CanRead l d u →
    CanRead l d w
ready_again e r = grind arith

-- they hold it where an inode begins
pub ready_begun : {l : Layout} {d : Device} {u w : Workspace} →
    w ≡ record u { bad = 0; dup_offers = 0; kept = 0; tail = false } → CanRead l d u → CanRead l d w
ready_begun e r = grind arith

stored_length : {T : Type 0} (old new : Vec T Global) (number : ℕ) (x : T) (n : ℕ) → vec_len old ≡ n →
    new.items ≡ slice_set old.items number x → vec_len new ≡ n
stored_length old new number x n e s = omega (arith, ap length s, length-set old.items number x, old.ok, new.ok, e)

-- or what was found of one is kept
pub ready_stored : {l : Layout} {d : Device} {number : ℕ} {class : Class} {i : Inode} {u w : Workspace} →
    Stored number class i u w →
    w ≡ record u { kinds = w.kinds; marked = w.marked; notes = w.notes; references = w.references } → CanRead l d u
    → CanRead l d w
ready_stored {number = number} {u = u} {w = w} s e r =
    let m = r.ready.made in
    let kinds = stored_length u.kinds w.kinds number _ _ m.kinds s.kinds in
    let marked = stored_length u.marked w.marked number _ _ m.marked s.marked in
    let references = stored_length u.references w.references number _ _ m.references s.starts in
    let notes = stored_length u.notes w.notes number _ _ m.notes s.notes in
    grind arith

-- what a call leaves of an image, where it began as another
pub image_from : {T : Type 0} {d0 d : Device} (d' : Device) (r : Result T RunFault) → d ≡ d0 → ImageAfter d d' r →
    ImageAfter d0 d' r
image_from d' r e h = subst (λ x. ImageAfter x d' r) e h
