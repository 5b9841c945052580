-- What a frame has still to give, where its next word is taken.
use Rattle.std.proofs.Common.{◌≡◌, ℕ, ◌+◌, ◌-◌, ◌*◌, ◌<◌, ◌≤◌, ◌^◌, Bool, true, false, if◌then◌else◌, List, [], ◌++◌}
use Rattle.std.proofs.{Common.{arith, refl, ◌==◌}, lemmas.Bool.Decides.nat_tests}
use Rattle.ffs_volume.specs.{declared.{Layout.Layout, Step.Step}, Blocks.Steps.{tail_of}}
use Rattle.ffs_volume.specs.Blocks.Steps.{steps_under, address_at, indirect_addresses_needed}
use Rattle.ffs_walk.specs.{declared.frame.{Frame.Frame, Item.Item}, Frames.{CanTake, frame_left, IsFrom}}
use Rattle.ffs_walk.specs.{declared.frame.Item.TheVariants.{UnusedWord, Word}, Fits.{FrameFits, IsBelow}}
use Rattle.ffs_walk.specs.{declared.blocks.Blocks.Blocks, Windows.CanWalk}
use Rattle.ffs_image.specs.Device.{Device}

-- the steps under the words from `next` on are those at the next word and then the rest
pub next_word : (g : Layout) (bytes : List ℕ) (child : ℕ → ℕ → List Step) (span address first next used : ℕ) →
    next < used →
    steps_under g bytes child span address first next (used - next)
    ≡ child (address_at g bytes address next) (first + next * span) ++ steps_under g bytes child span address first
    (next + 1) (used - (next + 1))
next_word g bytes child span address first next used h = grind arith

-- no Tail comes where the unused words aren't set, or it is known already
pub no_tail : (unread found : Bool) (xs : List Step) → (unread ≡ true → found ≡ false) →
    (if unread then tail_of found else []) ++ xs ≡ xs
no_tail true found xs h = rw (h refl) refl
no_tail false found xs h = refl

-- one word less is left
pub less_left : (most : ℕ) (f : Frame) → f.next < f.used → most + (0 + (f.used - (f.next + 1)) * most) ≤ frame_left most
    f
less_left most f h = grind arith

-- a used word has logical blocks of the inode under it
pub word_below : (words blocks first span used j : ℕ) → 0 < span →
    used ≤ indirect_addresses_needed words blocks first span →
    j < used → first + j * span < blocks
word_below words blocks first span used j some fits h = grind arith

pub item_below : (g : Layout) (blocks span : ℕ) (f : Frame) (item : Item) → 0 < span → FrameFits g blocks span f →
    IsFrom f span item → IsBelow blocks item
item_below g blocks span f UnusedWord some fits from = tt
item_below g blocks span f (Word address block) some fits from = grind (arith, word_below)

-- the next item of a frame that fits, and has a word left, may be taken
pub can_take : (g : Layout) (d : Device) (blocks span level : ℕ) (f : Frame) (held : Blocks) → 0 < span →
    FrameFits g blocks span f → blocks < 2 ^ 53 → f.next < f.used → level < 3 → CanWalk g d held →
    CanTake g d span level f held
can_take g d blocks span level f held some fits small h lt walk = grind arith

-- an address that isn't zero
pub is_set : (address : ℕ) → (address ≡ 0 → ⊥) → (address == 0) ≡ false
is_set address some = grind (arith, nat_tests, some)
