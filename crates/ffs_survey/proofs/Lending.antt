-- What a call leaves of the lists of a survey and of its reader.
use Rattle.std.proofs.Common.{arith, ◌≡◌, ◌+◌, ◌≤◌, ℕ, Bool, List, Result, ap, length, sym, ◌∙◌}
use Rattle.ffs_image.specs.{Reads.ReadAfter, declared.image.ImageFault.ImageFault}
use Rattle.ffs_volume.specs.Directories.Roles.{RoledEntry}
use Rattle.ffs_survey.specs.{Discover.Found, Levels.FindsSurvey, Lent.{lent_in, SameLists, LeavesLent}}
use Rattle.ffs_survey.specs.declared.{lists.Lists.Lists, directories.Directories.Ghosts}

pub same_kinds : {old new : Lists} → SameLists old new → new.kinds.now ≡ old.kinds.now
same_kinds same = ap (λ l. l.kinds) same.lent

pub same_marks : {old new : Lists} → SameLists old new → new.marked.now.items ≡ old.marked.now.items
same_marks same = ap (λ l. l.marked) same.lent

pub kinds_long : {old new : Lists} → SameLists old new → length new.kinds.now ≡ length old.kinds.now
kinds_long same = ap length (same_kinds same)

pub queue_long : {old new : Lists} → SameLists old new → length new.queue.now.items ≡ length old.queue.now.items
queue_long {old = old} {new = new} same = new.long.queue_long ∙ (kinds_long same ∙ sym old.long.queue_long)

-- a reader and lists that were lent, after calls without a fault
pub record StillLent {S : Type 0} (D : Ghosts S) (old now : S) (l l' : Lists) : Type 0 where
  pub ready : D.ready now
  pub base : D.base now ≡ D.base old
  pub device : D.device now ≡ D.device old
  pub same : SameLists l l'

pub still_by : {S : Type 0} (D : Ghosts S) {a b : S} {l l' : Lists} → D.ready b → D.base b ≡ D.base a →
    D.device b ≡ D.device a → lent_in l' ≡ lent_in l → StillLent D a b l l'
still_by D ready base device lent = grind arith

pub leaves_by : {S T : Type 0} (D : Ghosts S) {cost : (ℕ → ℕ) → ℕ} {a b : S} {l l' : Lists} {r : Result T ImageFault} →
    D.ready b → D.base b ≡ D.base a → ReadAfter (D.device a) (D.device b) r → SameLists l l' →
    ((n : List ℕ) → D.knows (D.base a) n → D.reads b ≤ D.reads a + cost (D.cost (D.base a) n)) →
    LeavesLent D cost a b l l' r
leaves_by D ready base read same counted = grind arith

-- a survey finds it where the lists hold the same
pub finds_same : {kinds starts : List ℕ} {marked : List Bool} {entries : ℕ → List RoledEntry}
    {right_shape : ℕ → Bool} {found found' : Found} → found'.references ≡ found.references →
    found'.named ≡ found.named → found'.reached ≡ found.reached → found'.parents ≡ found.parents →
    found'.calm ≡ found.calm → FindsSurvey kinds marked entries right_shape starts found →
    FindsSurvey kinds marked entries right_shape starts found'
finds_same ef em er ep ec s = record { survey = rw (ef, em, er, ep) s.survey; calm = rw (er, ep, ec) s.calm; flagged = rw (er, ep, ec) s.flagged }
