-- How many indirect blocks are seen, step by step and inode by inode, and how often phase 1 reads an
-- image that gives its bytes.
use Rattle.std.proofs.Common.{◌≡◌, ℕ, zero, suc, ◌+◌, ◌-◌, ◌<◌, ◌≤◌, true, List, ◌∷◌, ◌++◌, replicate, arith, refl, ap}
use Rattle.std.{proofs.Common.{sym, ◌∙◌}, specs.Int.div_ceil}
use Rattle.ffs_volume.specs.Blocks.Claims.{Claims, after_owner, after_step, at_next_inode, is_open, no_claims}
use Rattle.ffs_volume.specs.Blocks.{Inodes.{class_of, inode_of, inodes_of}, Owners.{owner_of, owners_of}}
use Rattle.ffs_volume.specs.Costs.VolumeReads.{indirect_count, indirect_in_owners, indirect_in_steps, seen_indirect}
use Rattle.ffs_volume.specs.{Costs.VolumeReads.volume_scan_reads, Laws.Geometry.IsAcceptedLayout}
use Rattle.ffs_volume.specs.declared.{Class.TheVariants.Free, Layout.Layout, Step.{Step, TheVariants.Gap}}
use Rattle.ffs_volume.{proofs.OwnerLaws.before_next, specs.Blocks.KeptSteps.claims_before}
use Rattle.ffs_image.specs.Known.{ForBytes}
use Rattle.ffs_walk.specs.{Counts.indirect_in_step, HeldWords.word_step, Rests.steps_left, declared.walk.Walk.Walk}
use Rattle.ffs_workspace.specs.{Tables.{HoldsInode, HoldsPiece}, declared.table.Table.Table}
use Rattle.ffs_claims.proofs.{Inodes.free_steps, FreeInodes.{AreFree, free_claims}, TableReads.{BlocksRead, blocks_all}}
use Rattle.ffs_claims.proofs.TableReads.{blocks_failed, blocks_failed_until, blocks_later, blocks_next, blocks_until}
use Rattle.ffs_claims.specs.{BeforeFault.reads_to_inode, Claiming.ReadsIndirect, Lines.owners_from}

-- the word of an indirect block of data is none
pub word_unseen : (s : Claims) (frag address block : ℕ) → seen_indirect s (word_step frag address block) ≡ 0
word_unseen s frag address block = grind arith

-- nor are gaps in a row
pub gaps_unseen : (v : Layout) (s : Claims) (n : ℕ) (steps : List Step) →
    indirect_in_steps v s (replicate n Gap ++ steps) ≡ indirect_in_steps v s steps
gaps_unseen v s zero steps = refl
gaps_unseen v s (suc n) steps =
    let one : indirect_in_steps v s (replicate (suc n) Gap ++ steps)
    ≡ 0 + indirect_in_steps v s (replicate n Gap ++ steps) = refl in
    omega (arith, one, gaps_unseen v s n steps)

-- a step, and those after it
pub step_on : {s' : Claims} {xs ys : List Step} {step : Step} (v : Layout) (s : Claims) → xs ≡ step ∷ ys →
    s' ≡ after_step v s step → indirect_in_steps v s xs ≡ seen_indirect s step + indirect_in_steps v s' ys
step_on v s next now = ap (indirect_in_steps v s) next ∙ rw now refl

-- the next step of a walk is taken
pub indirect_on : {knows : List ℕ → Type 0} {s' : Claims} (v : Layout) (s : Claims) (x y : Walk) (step : Step) →
    is_open s ≡ true → ForBytes knows (λ bytes. steps_left bytes x ≡ step ∷ steps_left bytes y) →
    s' ≡ after_step v s step → ForBytes knows (λ bytes. indirect_in_steps v s (steps_left bytes x)
    ≡ indirect_in_step step + indirect_in_steps v s' (steps_left bytes y))
indirect_on {s'} v s x y step uncut next now = grind arith

-- ---- inode by inode
-- those of an inode, and of the inodes after it
indirect_next : (v : Layout) (bytes : List ℕ) (s s' : Claims) (n : ℕ) → n < inodes_of v →
    s' ≡ after_owner v s (owner_of v bytes n) → indirect_in_owners v s (owners_from v bytes n)
    ≡ indirect_in_steps v (at_next_inode s) (owner_of v bytes n).steps
    + indirect_in_owners v s' (owners_from v bytes (n + 1))
indirect_next v bytes s s' n low now = grind arith

free_next : (v : Layout) (bytes : List ℕ) (s : Claims) (n : ℕ) → n < inodes_of v →
    class_of v (inode_of v bytes n) ≡ Free → indirect_in_owners v s (owners_from v bytes n)
    ≡ indirect_in_owners v (at_next_inode s) (owners_from v bytes (n + 1))
unfolding owner_of
free_next v bytes s n low free = grind (arith, free_claims, free_steps)

free_over : (v : Layout) (bytes : List ℕ) (s : Claims) (n k : ℕ) → n + suc k ≤ inodes_of v →
    AreFree v bytes n (n + suc k) → indirect_in_owners v s (owners_from v bytes n)
    ≡ indirect_in_owners v (at_next_inode s) (owners_from v bytes (n + suc k))
free_over v bytes s n zero high free = free_next v bytes s n (omega (arith, high)) (free n (omega arith) (omega arith))
free_over v bytes s n (suc k) high free =
    free_next v bytes s n (omega (arith, high)) (free n (omega arith) (omega arith))
    ∙ free_over v bytes (at_next_inode s) (n + 1) k (omega (arith, high))
    (λ x from below. free x (omega (arith, from)) (omega (arith, below)))
    ∙ ap (λ m. indirect_in_owners v (at_next_inode s) (owners_from v bytes m)) (omega arith)

-- ---- the reads before the inode n: blocks of the tables, and the indirect blocks that were seen
pub record VolumeRead (v : Layout) (bytes : List ℕ) (s : Claims) (n reads now : ℕ) (t : Table) : Type 0 where
  pub seen : ℕ
  pub read : BlocksRead v n reads now seen t
  pub rest : seen + indirect_in_owners v s (owners_from v bytes n) ≡ indirect_count v bytes

pub read_begins : (v : Layout) (bytes : List ℕ) {s : Claims} {reads now : ℕ} {t : Table} → now ≤ reads →
    s ≡ no_claims v → VolumeRead v bytes s 2 reads now t
unfolding indirect_count owners_of
read_begins v bytes none first = grind arith

module _ {v : Layout} {bytes : List ℕ} {s : Claims} {n reads now : ℕ} {t : Table} where
  -- the inode n was read, and its indirect blocks
  pub read_next : {s' : Claims} {now' : ℕ} {t' : Table} → IsAcceptedLayout v → n < inodes_of v →
      s' ≡ after_owner v s (owner_of v bytes n) → (HoldsInode t n → t' ≡ t) →
      (HoldsInode t n → ReadsIndirect v s (owner_of v bytes n) now now') →
      ((HoldsInode t n → ⊥) → HoldsPiece v v.inopb n t') →
      ReadsIndirect v s (owner_of v bytes n) (now + 1) now' →
      VolumeRead v bytes s n reads now t → VolumeRead v bytes s' (n + 1) reads now' t'
  read_next {s'} {now'} {t'} g low after same again block few r =
      let more = indirect_in_steps v (at_next_inode s) (owner_of v bytes n).steps in
      record {
        seen = r.seen + more;
        read = blocks_next {runs = r.seen} {runs' = r.seen + more} g (λ h. (same h, omega (arith, again h))) block
            (omega (arith, few)) r.read;
        rest = omega (arith, r.rest, indirect_next v bytes s s' n low after);
      }

  -- free inodes are passed over, one or more
  pub read_later : {m : ℕ} → n < m → m ≤ inodes_of v → AreFree v bytes n m → VolumeRead v bytes s n reads now t →
      VolumeRead v bytes (at_next_inode s) m reads now t
  read_later {m} some high free r =
      let e : n + suc (m - n - 1) ≡ m = omega (arith, some) in
      let over = free_over v bytes s n (m - n - 1) (omega (arith, e, high))
      (λ x from below. free x from (omega (arith, e, below))) in
      let passed = over ∙ ap (λ x. indirect_in_owners v (at_next_inode s) (owners_from v bytes x)) e in
      record {
        seen = r.seen;
        read = blocks_later (omega (arith, some)) r.read;
        rest = omega (arith, r.rest, passed);
      }

  -- all inodes were read
  pub read_all : IsAcceptedLayout v → n ≤ inodes_of v → VolumeRead v bytes s n reads now t →
      now ≤ reads + volume_scan_reads v bytes
  read_all g high r = omega (arith, blocks_all g high r.read, r.rest)

  -- and then the check of the inode n failed
  pub read_failed : {now' : ℕ} → IsAcceptedLayout v → n < inodes_of v →
      (HoldsInode t n → ReadsIndirect v s (owner_of v bytes n) now now') →
      ReadsIndirect v s (owner_of v bytes n) (now + 1) now' → VolumeRead v bytes s n reads now t →
      now' ≤ reads + volume_scan_reads v bytes
  read_failed {now'} g low again few r =
      let more = indirect_in_steps v (at_next_inode s) (owner_of v bytes n).steps in
      let all = blocks_failed {now' = now'} (r.seen + more) {T = Unit {0}} g low
      (λ h. (tt, omega (arith, again h))) (omega (arith, few)) r.read in
      omega (arith, all, r.rest, indirect_next v bytes s (after_owner v s (owner_of v bytes n)) n low refl)

  -- none from the inode m on was read
  pub read_until : {m : ℕ} → IsAcceptedLayout v → n ≤ m → VolumeRead v bytes s n reads now t →
      now ≤ reads + div_ceil m v.inopb + indirect_count v bytes
  read_until g high r = omega (arith, blocks_until g high r.read, r.rest)

  pub read_failed_until : {now' m : ℕ} → IsAcceptedLayout v → n < inodes_of v → n + 1 ≤ m →
      (HoldsInode t n → ReadsIndirect v s (owner_of v bytes n) now now') →
      ReadsIndirect v s (owner_of v bytes n) (now + 1) now' → VolumeRead v bytes s n reads now t →
      now' + indirect_in_owners v (after_owner v s (owner_of v bytes n)) (owners_from v bytes (n + 1))
      ≤ reads + div_ceil m v.inopb + indirect_count v bytes
  read_failed_until {now'} g low high again few r =
      let more = indirect_in_steps v (at_next_inode s) (owner_of v bytes n).steps in
      let all = blocks_failed_until {now' = now'} (r.seen + more) g high (λ h. omega (arith, again h)) (omega (arith, few))
      r.read in
      omega (arith, all, r.rest, indirect_next v bytes s (after_owner v s (owner_of v bytes n)) n low refl)

  -- it asked for no more than the inodes up to n
  pub read_failed_at : {now' : ℕ} → IsAcceptedLayout v → 2 ≤ n → n < inodes_of v → s ≡ claims_before v bytes n →
      (HoldsInode t n → ReadsIndirect v s (owner_of v bytes n) now now') →
      ReadsIndirect v s (owner_of v bytes n) (now + 1) now' → VolumeRead v bytes s n reads now t →
      now' ≤ reads + reads_to_inode v n bytes
  read_failed_at {now'} g low high e again few r =
      let next = before_next v bytes n low ∙ ap (λ t. after_owner v t (owner_of v bytes n)) (sym e) in
      omega (
        arith,
        read_failed_until {now' = now'} {m = n + 1} g high (omega arith) again few r,
        ap (λ t. indirect_in_owners v t (owners_from v bytes (n + 1))) next,
      )
