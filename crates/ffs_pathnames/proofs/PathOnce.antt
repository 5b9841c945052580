-- The path of a directory is made once for all lines on its entries.
use Rattle.std.proofs.Common.{◌≡◌, ◌+◌, ◌≤◌, ℕ, Bool, true, false, if◌then◌else◌, IsTrue, List, OnOk, Result, Ok, ap, arith, refl}
use Rattle.ffs_image.specs.declared.image.{Image.Ghosts, ImageFault.ImageFault}
use Rattle.ffs_volume.specs.{declared.{Layout.Layout, verdict.Verdict.Verdict}, Report.Reads.path_reads}
use Rattle.ffs_workspace.specs.declared.workspace.Workspace.{Workspace}
use Rattle.ffs_paths.specs.Reads.{KnowsPlaces}
use Rattle.ffs_pathnames.specs.Gathers.{asks_attr, asks_path, BeginsOnce, BeginsPath, if_wanted, verdict_reads}
use Rattle.ffs_pathnames.specs.LineReads.{again_reads, path_owed, ReadsPathOnce}
use Rattle.ffs_pathnames.specs.declared.entry_texts.EntryTexts.{EntryTexts}

-- what is wanted is no more than that
pub wanted_most : (wanted : Bool) (n : ℕ) → if_wanted wanted n ≤ n
wanted_most true n = omega arith
wanted_most false n = omega arith

pub verdict_most : (verdict : Verdict) → verdict_reads verdict ≤ again_reads
verdict_most verdict =
    let path = wanted_most (asks_path verdict) path_reads in
    let attr = wanted_most (asks_attr verdict) 1 in
    omega (arith, path, attr)

-- what is owed for the path, by whether it is settled
owed_by : (t : EntryTexts) (settled : Bool) → t.path_settled ≡ settled →
    path_owed t ≡ (if settled then 0 else path_reads)
owed_by t settled e = ap (λ q. if q then 0 else path_reads) e

owed_most : (t : EntryTexts) (settled : Bool) → t.path_settled ≡ settled → path_owed t ≤ path_reads
owed_most t true e = let o = owed_by t true e in omega (arith, o)
owed_most t false e = let o = owed_by t false e in omega (arith, o)

-- a line more
pub by_once : (t t' : EntryTexts) (reads reads' n : ℕ) → ReadsPathOnce 1 t t' reads reads' → 1 ≤ n →
    ReadsPathOnce n t t' reads reads'
by_once t t' reads reads' n once some = omega (arith, once, some)

-- the path is made, where it wasn't settled
module _ {S : Type 0} {I : Ghosts S} {v : Layout} {old new : S} {w w' : Workspace} {x : ℕ} {t t' : EntryTexts} where
  begin_few : {T : Type 0} {r : Result T ImageFault} (settled : Bool) → t.path_settled ≡ settled →
      BeginsPath I v old new w w' x t t' r → (b : List ℕ) → KnowsPlaces v (I.device old).contents w b →
      I.reads new ≤ I.reads old + path_owed t
  begin_few true e p b k = let reads = ap I.reads (p.held e).0 in omega (arith, reads)
  begin_few false e p b k =
      let few = (p.makes.makes.leaves.counted b k).count in
      let owed = owed_by t false e in
      omega (arith, few, owed)

  pub begin_once : {T : Type 0} {y : T} → BeginsPath I v old new w w' x t t' (Ok y) → (b : List ℕ) →
      KnowsPlaces v (I.device old).contents w b → I.reads new + path_owed t' ≤ I.reads old + path_owed t
  begin_once p b k =
      let few = begin_few t.path_settled refl p b k in
      let none = owed_by t' true p.makes.makes.settled in
      omega (arith, few, none)

  -- and where no more is read then
  pub begin_alone : {T U : Type 0} {n : ℕ} {r : Result T ImageFault} {next : Result U ImageFault} →
      BeginsPath I v old new w w' x t t' r → OnOk next (IsTrue t'.path_settled) →
      BeginsOnce I v old new w w' n t t' next
  begin_alone p settled = record {
    settled = settled;
    stays = p.makes.makes.stays;
    again = λ before b k. let reads = ap I.reads (p.held before).0 in omega (arith, reads);
    once = λ b k.
        let few = begin_few t.path_settled refl p b k in
        let most = owed_most t' t'.path_settled refl in
        omega (arith, few, most);
  }
