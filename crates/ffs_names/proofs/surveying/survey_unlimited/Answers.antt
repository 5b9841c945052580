use Rattle.ffs_workspace.proofs.{Leaving.{counts_surveyed, counts_begin}, PlaceLaws.{filled_noted, zero_index}}
use Rattle.ffs_workspace.specs.{Holds.HoldsBlockCheck, Tables.IsTableOf}
use Rattle.std.proofs.Common.{◌∙◌, ◌≡◌, ◌*◌, ℕ, List, Some, length, ap, subst, sym, rules, arith, slice_index}
use Rattle.ffs_volume.{proofs.Sizes.some_inodes, specs.Encodings.Kinds.kind_at}
use Rattle.ffs_names.{specs.Readers.{Base, KnowsReader}, proofs.SurveyHolds.{volume_survey, holds_tree, volume_calm}}
use Rattle.ffs_names.proofs.SurveyHolds.{holds_calm, holds_references, on_ok_is, on_err_is}
use Rattle.ffs_names.proofs.surveying.survey_unlimited.Goals.{After-survey_directories-surveyed}
use Rattle.ffs_names.proofs.CalmDirLaws.{flags_each_calm}
use Rattle.ffs_names.proofs.surveying.survey_unlimited.Given as given
use Rattle.ffs_names.proofs.surveying.survey_unlimited.Goals as goal

-- what the reader is over, and that its lists are those of the claims
abbrev base : (g : given.Over) → After-survey_directories-surveyed g → Base
base g c = record {
  layout = c.args.geometry.now.layout;
  contents = (g.I.Image.device c.args.image.now).contents;
  kinds = c.deref.result.now;
  notes = c.args.workspace.now.notes.items;
  image_lent = c.reader-2-1.given;
  windows_lent = c.reader-3-1.given.0;
}

known : (g : given.Over) (c : After-survey_directories-surveyed g) (b : List ℕ) → (g.I.Image.device c.args.image.now).contents ≡
    Some b → HoldsBlockCheck c.args.geometry.now.layout b c.args.workspace.now → KnowsReader (base g c) b
known g c b t h = grind arith

kinds : (g : given.Over) (c : After-survey_directories-surveyed g) (b : List ℕ) → HoldsBlockCheck c.args.geometry.now.layout b
    c.args.workspace.now → (x : ℕ) → slice_index c.deref-2.result.now x ≡ kind_at c.args.geometry.now.layout b x
kinds g c b h x = ap (λ ks. slice_index ks x) c.deref-2.ensures.value ∙ h.kinds x

pub returns-clause-leaves : goal.returns-clause-leaves
returns-clause-leaves g c =
    let v = c.args.geometry.now.layout in
    let image = c.image-1.given.1 (sym (ap (λ x. x.image_lent) c.survey_directories-surveyed.ensures.leaves.same)) in
    let same = ap (λ x. x.layout) c.survey_directories-surveyed.ensures.leaves.same in
    let r = c.survey_directories-surveyed.ensures.leaves.is_ready.0 in
    let table = subst (λ l. IsTableOf l c.survey_directories-surveyed.new.directories.windows.now.table) same r.table in
    record {
      same = search rules;
      unnoted = λ x. ap (λ ws. slice_index ws x) c.fill.ensures.items ∙ zero_index _ x;
      ready = record {
        made = record {
          used = search rules;
          duplicates = search rules;
          kinds = search rules;
          marked = search rules;
          named = search rules;
          reached = search rules;
          flags = search rules;
          references = search rules;
          notes = search rules;
          parents = search rules;
          words = search rules;
          table = table.room;
          blocks = search rules;
          current = search rules;
          other = search rules;
        };
        volume = rw (image, ← same) r.volume;
      };
      read = grind arith;
      unsurveyed = on_err_is c.survey_directories-surveyed.result _ c.is_ok-workspace.ensures.value;
    }

pub returns-clause-survey : goal.returns-clause-survey
returns-clause-survey g c = λ b k.
    let t = k.0 in
    let h = k.1 in
    let at = (goal.at.returns-clause-survey g c).After-survey_directories-surveyed in
    let v = c.args.geometry.now.layout in
    let w = c.args.workspace.now in
    let n = c.survey_directories-surveyed.new.found in
    let kinds_now = c.deref-2.result.now in
    let marked = w.marked.items in
    let parents = n.parents.now.items in
    let reached = n.reached.now.items in
    let flags = n.calm.now.items in
    let knows = known g at b t h in
    record {
      found = on_ok_is c.survey_directories-surveyed.result _ _ (λ ok s.
          let counts = n.references.now.items in
          let named = n.named.now.items in
          let found = s b knows in
          let survey = volume_survey (base g at) b kinds_now {counts = counts} (search rules)
          (kinds g at b h) found.survey in
          let begun = counts_begin v b w h.counts c.requires.first in
          let tree = holds_tree v b _ _ counts named reached parents (search rules) (search rules) (search rules) survey in
          let references = holds_references v b w _ (search rules) (search rules) begun survey in
          record {
            survey = record { tree = tree; places = filled_noted _ _ _ _ c.fill.ensures.items };
            references = references;
            surveyed = c.is_ok-workspace.ensures.value ∙ ok;
            block_check = grind (arith, counts_surveyed);
            calm = holds_calm v b _ kinds_now marked reached parents flags (sym c.deref-2.ensures.value) (search rules)
                (search rules) (search rules) (search rules)
                (volume_calm (base g at) b kinds_now marked reached parents flags found.calm);
          })
          c.survey_directories-surveyed.ensures.found;
      flags = on_ok_is c.survey_directories-surveyed.result _ _ (λ ok s.
          let found = s b knows in
          let survey = volume_survey (base g at) b kinds_now (search rules) (kinds g at b h) found.survey in
          record {
            flagged = λ d calm. flags_each_calm (base g at) b kinds_now _ _ marked _ reached parents flags (search rules)
                (kinds g at b h) (omega (arith, c.requires.ready.ready.made.marked)) h.marked survey found.flagged d calm;
          })
          c.survey_directories-surveyed.ensures.found;
      counted =
          let image = c.image-1.given.1 (sym (ap (λ x. x.image_lent) c.survey_directories-surveyed.ensures.leaves.same)) in
          let all : length kinds_now ≡ v.ncg * v.ipg =
          omega (arith, c.deref-2.ensures.len, c.requires.ready.ready.made.kinds) in
          rw image (rw all at (c.survey_directories-surveyed.ensures.leaves.counted b knows));
    }

pub survey_directories-surveyed-requires : goal.survey_directories-surveyed-requires
survey_directories-surveyed-requires g c = record { ready = search rules; lists = grind (arith, some_inodes, kinds) }
