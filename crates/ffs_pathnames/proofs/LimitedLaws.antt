-- What a look at a directory leaves of the image that it was limited on, and of the reads that are left.
use Rattle.std.{specs.Borrow.GName, proofs.Common.{◌≡◌, ◌≤◌, ◌+◌, ℕ, arith, Bool, Option, Some, None, IfSome, Result}}
use Rattle.std.proofs.Common.{Ok, Err, IfOk, MatchOption, MatchResult}
use Rattle.ffs_survey.specs.Costs.{TakesReads}
use Rattle.ffs_pathnames.specs.ReadsLeft.{TakesLeft}
use Rattle.ffs_image.specs.{declared.image.ImageFault.ImageFault, Device.Device, Limited.{GivesBackLent, lent_at}}
use Rattle.ffs_image.{specs.{Limited.limited_device, Reads.ReadAfter}, proofs.Limits.{ServedBy, read_over, served}}
use Rattle.ffs_names.specs.Windows.{CanReadChunks}
use Rattle.ffs_volume.specs.declared.Layout.{Layout}
use Rattle.ffs_walk.specs.declared.{blocks.Blocks.Blocks, window.Window.Window}

-- windows that can be read into for one image can be for another with its bytes and its size
pub can_read_same : (v : Layout) (d d' : Device) (blocks : Blocks) (chunk : Window) → d'.contents ≡ d.contents →
    d'.size ≡ d.size → CanReadChunks v d blocks chunk → CanReadChunks v d' blocks chunk
can_read_same v d d' blocks chunk e size can = grind arith

-- what a look made of the image below, and of the reads that were left for it
pub record LookedBy {T : Type 0} (lent below : Device) (name_lent name : GName) (reads reads' limit left asked : ℕ)
    (spent : Bool) (r : Result T ImageFault) : Type 0 where
  pub served : ServedBy lent below name_lent name reads reads' limit asked spent r
  pub most : reads' + left ≤ reads + limit
  pub kept : limit ≤ left + asked

pub looked : {T : Type 0} {lent below : Device} {name_lent name : GName} {reads reads' limit left asked : ℕ} {s : Bool}
    {above' : Device} {r : Result T ImageFault} →
    ReadAfter (limited_device lent name_lent reads limit) above' r →
    GivesBackLent (lent_at below name reads' left) asked s above' →
    LookedBy lent below name_lent name reads reads' limit left asked s r
looked {lent = lent} {name_lent = name_lent} {reads = reads} {limit = limit} {above' = above'} {r = r} h back =
    let over = read_over (limited_device lent name_lent reads limit) above' r h in
    let g = back (lent_at lent name_lent reads limit) over.lent over.contents over.size in
    record { served = served h back; most = g.most; kept = g.left_of }

-- what was asked of the limited image was taken of the image below
pub taken_below : {T : Type 0} {r : Result T ImageFault} {reads reads' asked asked' before after : ℕ} {held : Type 0} →
    TakesReads asked asked' before after held r → asked ≡ 0 → reads' ≤ reads + asked' →
    TakesReads reads reads' before after held r
taken_below {r = Ok x} took none few = record { most = omega arith; paid = omega arith; held = took.held }
taken_below {r = Err e} took none few = record { most = omega arith; paid = tt; held = tt }

-- and of the reads that were left
pub taken_left : {T : Type 0} {r : Result T ImageFault} {left left' asked asked' before after : ℕ} {held : Type 0} →
    TakesReads asked asked' before after held r → asked ≡ 0 → left ≤ left' + asked' → TakesLeft left left' before after r
taken_left {r = Ok x} took none few = record { most = omega arith; paid = omega arith }
taken_left {r = Err e} took none few = record { most = omega arith; paid = tt }

-- a chunk that comes is one less to come
pub budget_falls : (r : Result (Option ℕ) ImageFault) (old new : ℕ) → MatchResult r
    (λ o. MatchOption o (new ≡ old) (λ x. new + 1 ≡ old)) (λ e. new ≡ 0)
    → IfOk r (λ o. IfSome o (λ x. new + 1 ≡ old))
budget_falls (Ok (Some x)) old new h = h
budget_falls (Ok None) old new h = tt
budget_falls (Err e) old new h = tt
