-- A target found in a workspace that holds what phase 1 leaves: what its faults, and its lines, say of the command.
use Rattle.std.proofs.Common.{◌≡◌, ◌∙◌, ◌+◌, ◌≤◌, ℕ, Bool, Option, Err, refl, ap, inr}
use Rattle.std.specs.Prelude.{⊤}
use Rattle.ffs_image.specs.{Device.{Device, ForContents}, Known.ForBytes}
use Rattle.ffs_memory.specs.Account.{Account}
use Rattle.ffs_volume.specs.Disk.Superblock.{Superblock}
use Rattle.ffs_report.specs.{Fails.FailsIn, declared.fault.RunFault.{RunFault, TheVariants.{Read, Out}}}
use Rattle.ffs_volume.specs.Report.Reads.{scan_reads}
use Rattle.ffs_finding.specs.{declared.request.Target.TheVariants.Lost, LostMaps.FailsForLost}
use Rattle.ffs_workspace.specs.{declared.workspace.Workspace.Workspace, Holds.HoldsPhase1}
use Rattle.ffs_finding.specs.declared.find.FindFault.{FindFault, TheVariants.{Refused, Failed, NoMemory}}
use Rattle.ffs_finding.specs.{declared.request.Target.Target, Claims.{TakesClaims, WithBlocks}, Fields.WithSuper}
use Rattle.ffs_finding.specs.{Outcome.Finds, Headline.{FindsTarget, IsReadForTarget, target_lines, target_reads}}
use Rattle.ffs_finding.proofs.{LostParts.fails_later, Printing.{first_knowing, reads_first}}
use Rattle.ffs_check.specs.Moment.{Moment}

module _ (target : Target) (sector : Option ℕ) (s : Superblock) (m : Moment) where
  -- nothing was printed then, and nothing is said of where a read fails
  pub unclaimed_found : (d' : Device) (reads : ℕ) (held held' : Account) (fault : FindFault) →
      ((at : ℕ) → IsReadForTarget target sector s (WithSuper m.image sector s) m.reads m.out
      (record { image = d'; reads = reads; out = m.out }) at) → reads ≤ m.reads + target_reads target s.layout →
      TakesClaims s.layout m.image d' held held' (Err fault) →
      FindsTarget target sector s m (record { image = d'; reads = reads; out = m.out }) (Err fault)
  unclaimed_found d' reads held held' (Refused fault) anywhere bound p = absurd p
  unclaimed_found d' reads held held' (Failed (Read fault)) anywhere bound p = record {
    answer = record { image = p.0; text = reads_first };
    grounds = anywhere fault.sector;
    reads = bound;
  }
  unclaimed_found d' reads held held' (Failed (Out fault)) anywhere bound p = absurd p
  unclaimed_found d' reads held held' NoMemory anywhere bound p =
      record { answer = (p.0, refl); grounds = tt; reads = bound }

  -- what phase 1 leaves says what belongs to whom
  pub claimed_knows : (w : Workspace) → ForContents m.image.contents (λ b. HoldsPhase1 s.layout b w) →
      ForBytes (WithSuper m.image sector s) (λ b. WithBlocks s.layout m.image w b
      × (target_lines target sector b s ≡ target_lines target sector b s))
  claimed_knows w holds b k =
      let h = holds b k.0 in ((k.0, record { used = h.used; kinds = h.kinds; notes = h.notes }), refl)

  -- a fault came after phase 1
  pub claimed_fails : {T : Type 0} (w : Workspace) (between : ℕ) (m' : Moment) (fault : RunFault) →
      FailsIn {T = T} (IsReadForTarget target sector s (WithSuper m.image sector s) m.reads m.out m') (Err fault) →
      m'.reads ≤ m.reads + target_reads target s.layout →
      ForContents m.image.contents (λ b. HoldsPhase1 s.layout b w) →
      Finds {T = T} (WithBlocks s.layout m.image w) (λ b. target_lines target sector b s)
      (record { image = m.image; reads = between; out = m.out }) m' (Err fault) →
      FindsTarget target sector s m m' (Err (Failed fault))
  claimed_fails w between m' (Read fault) failed bound holds p = record {
    answer = record { image = p.image; text = first_knowing (claimed_knows w holds) p.text };
    grounds = failed;
    reads = bound;
  }
  claimed_fails w between m' (Out fault) failed bound holds p = record {
    answer = record { image = p.image; text = first_knowing (claimed_knows w holds) p.text };
    grounds = tt;
    reads = bound;
  }

-- a read failed after phase 1, at the block of a group
pub lost_fails : (sector : Option ℕ) (s : Superblock) (m : Moment) (d : Device) (w : Workspace) (between : ℕ)
    (m' : Moment) (fault : RunFault) → d ≡ m.image → between ≤ m.reads + scan_reads s.layout →
    ForContents m.image.contents (λ b. HoldsPhase1 s.layout b w) →
    FailsIn {T = Bool} (FailsForLost (WithBlocks s.layout d w) s.layout between m.out m') (Err fault) →
    FailsIn {T = Bool} (IsReadForTarget Lost sector s (WithSuper m.image sector s) m.reads m.out m') (Err fault)
lost_fails sector s m d w between m' (Read fault) same few holds p =
    inr (fails_later _ _ s.layout _ _ m.out m' fault.sector (λ b k. let known = (claimed_knows Lost sector s m w holds b k).0 in
    (ap (λ (x : Device). x.contents) same ∙ known.0, known.1)) few p)
lost_fails sector s m d w between m' (Out fault) same few holds p = tt

-- nothing is said of where a read failed
pub fails_anywhere : (fault : RunFault) → FailsIn {T = Unit {0}} (λ at. ⊤) (Err fault)
fails_anywhere (Read fault) = tt
fails_anywhere (Out fault) = tt
