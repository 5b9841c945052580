use Rattle.std.proofs.Common.{◌≡◌, ◌∙◌, ◌*◌, ◌++◌, ℕ, List, [], arith, rules, refl, ap, append-nil, length, take, drop}
use Rattle.std.{proofs.{Common.Option, lemmas.Result.err_from_is_err_and}, specs.List.{concat, flat_map}}
use Rattle.ffs_volume.specs.{Disk.{Numbers.piece, Outcome.{super_bytes, super_sector}}, Find.Fields.field_lines}
use Rattle.ffs_volume.{specs.Find.Fields.total_fields, proofs.Results.fails_with}
use Rattle.ffs_layout.{specs.Super.superblock_in, proofs.{Copying.default_sector, Answering.taken}}
use Rattle.ffs_report.proofs.Sinks.{took_nil, took_then, broke_off_after}
use Rattle.ffs_finding.{specs.Fields.wrong_lines, proofs.{FieldTexts.{too_short, first, both}, Printing.any_more}}
use Rattle.ffs_finding.proofs.Printing.{concat-append, reads_first}
use Rattle.ffs_finding.proofs.fields.find_wrong_fields.Goals as goal

-- the bytes that were read are those of the superblock
super_read : (start : ℕ) (sector : Option ℕ) (b bytes : List ℕ) → start ≡ super_sector sector → length bytes ≡ 1376 →
    bytes ≡ take (length bytes) (drop (start * 512) b) → bytes ≡ super_bytes b sector
super_read start sector b bytes at long read =
    taken (start * 512) 1376 b bytes long read ∙ ap (λ (n : ℕ). piece (n * 512) 1376 b) at

pub returns-then-size-start-clause-prints : goal.returns-then-size-start-clause-prints
returns-then-size-start-clause-prints g c =
    let d = g.I.Image.device c.args.image.now in
    let at = c.from-start.ensures ∙ c.unwrap_or.ensures ∙ default_sector c.args.sector in
    record {
      found = record {
        image = refl;
        text = record {
          lines = [];
          right = λ b k. absurd (too_short d b c.args.sector (superblock_in c.args.superblock.now) _
              (g.met.I.Image.sized c.args.image.now) k.0 at (omega (arith, c.size.ensures)) k.1);
          took = took_nil _;
        };
      };
      any = refl;
    }

pub returns-in_err-read_at-clause-prints : goal.returns-in_err-read_at-clause-prints
returns-in_err-read_at-clause-prints g c = grind (arith, err_from_is_err_and, reads_first)

pub returns-in_err-of_layout-clause-prints : goal.returns-in_err-of_layout-clause-prints
returns-in_err-of_layout-clause-prints g c =
    let at = c.from-start.ensures ∙ c.unwrap_or.ensures ∙ default_sector c.args.sector in
    let s = superblock_in c.args.superblock.now in
    rw (fails_with _ c.from_residual-in_err-of_layout.ensures.1) (record {
      found = record {
        image = search rules;
        text = record {
          lines = wrong_lines (c.from-start.result * 512) c.layout_fields.result;
          rest = λ b. flat_map (field_lines (c.from-start.result * 512)) (total_fields s c.read_at.new.buf);
          right = λ b k. first s c.args.sector c.from-start.result at b c.read_at.new.buf
              (super_read c.from-start.result c.args.sector b c.read_at.new.buf at (search rules)
              (c.in_ok-read_at.ensures.bytes.bytes b k.0)) c.layout_fields.result c.layout_fields.ensures;
          outcome = c.in_err-of_layout.ensures.text;
        };
      };
      any = tt;
    })

pub returns-in_err-of_totals-clause-prints : goal.returns-in_err-of_totals-clause-prints
returns-in_err-of_totals-clause-prints g c =
    let at = c.from-start.ensures ∙ c.unwrap_or.ensures ∙ default_sector c.args.sector in
    let s = superblock_in c.args.superblock.now in
    let xs = wrong_lines (c.from-start.result * 512) c.layout_fields.result in
    let ys = wrong_lines (c.from-start.result * 512) c.total_fields.result in
    rw (fails_with _ c.from_residual-in_err-of_totals.ensures.1) (record {
      found = record {
        image = search rules;
        text = record {
          lines = xs ++ ys;
          rest = λ b. [];
          right = λ b k. append-nil _ ∙ both s c.args.sector c.from-start.result at b c.read_at.new.buf
              (super_read c.from-start.result c.args.sector b c.read_at.new.buf at (search rules)
              (c.in_ok-read_at.ensures.bytes.bytes b k.0)) c.layout_fields.result c.layout_fields.ensures
              c.total_fields.result c.total_fields.ensures;
          outcome = rw (concat-append xs ys)
              (broke_off_after _ _ _ (concat xs) (concat ys) c.in_ok-of_layout.ensures.text
              c.in_err-of_totals.ensures.text);
        };
      };
      any = tt;
    })

pub returns-clause-prints : goal.returns-clause-prints
returns-clause-prints g c =
    let at = c.from-start.ensures ∙ c.unwrap_or.ensures ∙ default_sector c.args.sector in
    let s = superblock_in c.args.superblock.now in
    let xs = wrong_lines (c.from-start.result * 512) c.layout_fields.result in
    let ys = wrong_lines (c.from-start.result * 512) c.total_fields.result in
    record {
      found = record {
        image = search rules;
        text = record {
          lines = xs ++ ys;
          right = λ b k. append-nil _ ∙ both s c.args.sector c.from-start.result at b c.read_at.new.buf
              (super_read c.from-start.result c.args.sector b c.read_at.new.buf at (search rules)
              (c.in_ok-read_at.ensures.bytes.bytes b k.0)) c.layout_fields.result c.layout_fields.ensures
              c.total_fields.result c.total_fields.ensures;
          took = rw (concat-append xs ys)
              (took_then _ _ _ (concat xs) (concat ys) c.in_ok-of_layout.ensures.text
              c.in_ok-of_totals.ensures.text);
        };
      };
      any = rw (any_more xs ys, c.in_ok-of_layout.ensures.any, c.in_ok-of_totals.ensures.any) refl;
    }
