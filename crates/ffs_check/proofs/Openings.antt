-- How an opening ends.
use Rattle.std.proofs.Common.{arith, ◌≡◌, inl, inr, refl, ap, ◌∙◌, ◌∷◌, [], ◌++◌, ◌||◌, ℕ, false, List, Option, Some}
use Rattle.std.proofs.Common.{None, Result, Ok, Err, ◌≤◌, ◌+◌}
use Rattle.ffs_image.specs.Device.{Device, ForContents}
use Rattle.ffs_volume.specs.declared.{SuperFault.{SuperFault, TheVariants.Magic}, End.{End, TheVariants.{Refused, WriteFault}}}
use Rattle.ffs_volume.specs.{Disk.{Superblock.Superblock, Outcome.outcome}, Messages.Kinds.{Message, has_defect}}
use Rattle.ffs_volume.specs.Report.Opening.{fault_line, found_lines, head_lines, opening_lines, super_lines}
use Rattle.ffs_report.{specs.{Progress.{Progress, Said, Stopped}, Sink.Sink}, proofs.Reports.{said_then, stopped_after}}
use Rattle.ffs_layout.specs.{declared.superblock.Super.Super, Super.{ReadsSuper, may_read_copy, superblock_in}}
use Rattle.ffs_check.specs.{Moment.Moment, Opening.{IsWorkingAfter, OpeningOf, Opens}}
use Rattle.ffs_check.proofs.EndLaws.{broke_more, broke_off}

-- what is found where nothing has been read
abbrev found_in : Option (List ℕ) → Option ℕ → Result Superblock SuperFault
found_in None sector = Err Magic
found_in (Some bytes) sector = outcome bytes sector

found_there : (contents : Option (List ℕ)) (sector : Option ℕ) (b : List ℕ) → contents ≡ Some b →
    found_in contents sector ≡ outcome b sector
found_there contents sector b e = rw e refl

-- where a superblock was accepted, nothing was read in vain
pub unfailed_of : (image image' : Device) (sector : Option ℕ) (s : Superblock) → ReadsSuper image image' sector (Ok s) →
    image' ≡ image
unfailed_of image image' sector s read = grind arith

pub found_of : (image image' : Device) (sector : Option ℕ) (s : Superblock) → ReadsSuper image image' sector (Ok s) →
    ForContents image.contents (λ bytes. Ok s ≡ outcome bytes sector)
found_of image image' sector s read = grind arith

-- the lines that name what is checked report no defect
pub no_defect_head : (name : List ℕ) (sector : Option ℕ) (xs : List Message) →
    has_defect (head_lines name sector ++ xs) ≡ has_defect xs
no_defect_head name sector xs = grind arith

-- the moment of an image, of its reads and of a report's output
abbrev pub output_at : Device → (reads : ℕ) → Progress → Moment
output_at image reads report = record { image = image; reads = reads; out = report.sink }

module _ (image : Device) (before : ℕ) (name : List ℕ) (sector : Option ℕ) (old head : Progress)
    (fresh : IsWorkingAfter [] false old) where
  -- the output failed before anything was read
  pub at_head : (after : ℕ) → after ≤ before + 1 → Stopped old head (head_lines name sector) →
      OpeningOf name sector (output_at image before old) (output_at image after head) (Err WriteFault)
  at_head after few stopped =
      let found = found_in image.contents sector in
      record {
        found = found;
        super_is_read = inr (refl, found_there image.contents sector);
        once = λ _. few;
        ends = inr (inl (record {
          no_read_failed = refl;
          found_is = found_there image.contents sector;
          broke_off = broke_more old.sink head.sink (head_lines name sector) (found_lines found)
              (broke_off old head (head_lines name sector) fresh.working stopped);
          end_is = refl;
        }));
      }

  module _ (image' : Device) (after : ℕ) (new : Progress) (said : Said old head (head_lines name sector)) where
    module _ (super : Super) (answers : ReadsSuper image image' sector (Ok (superblock_in super))) where
      pub accepted : Said head new (super_lines (superblock_in super)) →
          OpeningOf name sector (output_at image before old) (output_at image' after new) (Ok super)
      accepted more =
          let whole = said_then old head new (head_lines name sector) (super_lines (superblock_in super)) said more in
          record {
            found = Ok (superblock_in super);
            super_is_read = answers;
            once = λ e. absurd (cc);
            ends = (whole.took, refl);
          }

      pub at_super : Stopped head new (super_lines (superblock_in super)) →
          OpeningOf name sector (output_at image before old) (output_at image' after new) (Err WriteFault)
      at_super stopped =
          let s = superblock_in super in
          record {
            found = Ok s;
            super_is_read = answers;
            once = λ e. absurd (cc);
            ends = inr (inl (record {
              no_read_failed = unfailed_of image image' sector s answers;
              found_is = found_of image image' sector s answers;
              broke_off = broke_off old new (opening_lines name sector (Ok s)) fresh.working
                  (stopped_after old head new (head_lines name sector) (super_lines s) said stopped);
              end_is = refl;
            }));
          }

    module _ (fault : SuperFault) (answers : ReadsSuper image image' sector (Err fault))
        (once : may_read_copy (Err fault) ≡ false → after ≤ before + 1) where
      pub refused : Said head new (fault_line fault ∷ []) →
          OpeningOf name sector (output_at image before old) (output_at image' after new) (Err (Refused fault))
      refused more =
          let whole = said_then old head new (head_lines name sector) (fault_line fault ∷ []) said more in
          record {
            found = Err fault;
            super_is_read = answers;
            once = once;
            ends = inl (record { fault = fault; found_is = refl; went_out = whole.took; end_is = refl });
          }

      pub at_fault : Stopped head new (fault_line fault ∷ []) →
          OpeningOf name sector (output_at image before old) (output_at image' after new) (Err WriteFault)
      at_fault stopped = record {
        found = Err fault;
        super_is_read = answers;
        once = once;
        ends = inr (inr (record {
          fault = fault;
          found_is = refl;
          in_line = record {
            between = head.sink;
            went_out = said.took;
            broke_off = broke_off head new (fault_line fault ∷ []) (said.failed ∙ fresh.working) stopped;
          };
          end_is = refl;
        }));
      }

-- a report that had said nothing has said an accepted superblock's opening
pub opened : (name : List ℕ) (sector : Option ℕ) (s : Superblock) (old head new : Progress) →
    IsWorkingAfter [] false old → Said old head (head_lines name sector) → Said head new (super_lines s) →
    IsWorkingAfter (super_lines s) false new
opened name sector s old head new fresh said more =
    let whole = said_then old head new (head_lines name sector) (super_lines s) said more in
    record {
      working = whole.failed ∙ fresh.working;
      defect = whole.defect ∙ ap (λ d. d || has_defect (head_lines name sector ++ super_lines s)) fresh.defect
          ∙ no_defect_head name sector (super_lines s);
    }

-- an opening that ends as refused for the superblock's own fields
pub refused_once : (name : List ℕ) (sector : Option ℕ) (old new : Moment) (end : End) →
    OpeningOf name sector old new (Err end) → (fault : SuperFault) → end ≡ Refused fault →
    may_read_copy (Err fault) ≡ false → new.reads ≤ old.reads + 1
refused_once name sector old new end o fault e faulty = grind arith

-- the same of outputs by other names for them
pub opens_at : {W : Type 0} (sink : W → Sink) (a a' b b' : W) {name : List ℕ} {sector : Option ℕ}
    {image image' : Device} {before after : ℕ} {result : Result Super End} →
    Opens name sector (record { image = image; reads = before; out = sink a })
    (record { image = image'; reads = after; out = sink b }) result → sink a ≡ sink a' → sink b ≡ sink b' →
    Opens name sector (record { image = image; reads = before; out = sink a' })
    (record { image = image'; reads = after; out = sink b' }) result
opens_at sink a a' b b' opens first last = rw (← first, ← last) opens
