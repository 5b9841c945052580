use Rattle.std.proofs.{Common.{ap, arith, if◌then◌else◌, ◌∙◌}, lemmas.Result.IfOk-weaker}
use Rattle.ffs_volume.{specs.Report.Reads.path_reads, proofs.Results.fails_with}
use Rattle.ffs_workspace.proofs.Leaving.{windows_leave}
use Rattle.ffs_paths.proofs.{Climbed.{few_more, few_then}, Keeping.reads_then, Sparing.on_all}
use Rattle.ffs_pathnames.proofs.{LineCounts.places_on, Passing.knows_on, StampLaws.windows_keep}
use Rattle.ffs_pathnames.proofs.{PathOnce.{begin_alone, begin_once, verdict_most}, ReadyLaws.gather_failed}
use Rattle.ffs_pathnames.proofs.gather.gather_entry.Goals as goal

pub returns-in_err-make_path_once : goal.returns-in_err-make_path_once
returns-in_err-make_path_once g c =
    let made = c.in_err-make_path_once.ensures in
    rw (fails_with _ c.from_residual.ensures.1) (record {
      enough = tt;
      path = made.makes.makes.path;
      once = begin_alone made tt;
      leaves = gather_failed c.in_err-make_path_once.field-0.0
          (record { path = made.makes.makes.leaves; most = made.makes.most }) (omega arith);
    })

pub gather_paths_and_attr-requires : goal.gather_paths_and_attr-requires
gather_paths_and_attr-requires g c = grind arith

pub returns : goal.returns
returns g c =
    let v = c.args.geometry.now.layout in
    let made = c.in_ok-make_path_once.ensures.makes in
    let read = made.makes.leaves.reads in
    let left = c.gather_paths_and_attr.ensures.leaves in
    record {
      enough = IfOk-weaker c.gather_paths_and_attr.result _ _
          (λ a h b k. h c.args.entry.now.dir b
          (knows_on v _ _ c.args.workspace.now c.make_path_once.new.workspace c.args.entry.now.dir b
          (ap (λ d. d.contents) read.read)
          (windows_leave c.args.workspace.now c.make_path_once.new.workspace read.lists)
          (windows_keep c.args.workspace.now c.make_path_once.new.workspace read.lists) k.knows) (made.makes.made b k))
          c.gather_paths_and_attr.ensures.enough;
      path = λ b k q. rw c.gather_paths_and_attr.ensures.same.1 (made.makes.made b k);
      once = record {
        settled = on_all c.gather_paths_and_attr.result _ (c.gather_paths_and_attr.ensures.same.0 ∙ made.makes.settled);
        stays = λ before. c.gather_paths_and_attr.ensures.same.0 ∙ made.makes.stays before;
        again = λ before b k.
            let same = ap g.I.Image.reads (c.in_ok-make_path_once.ensures.held before).0 in
            let few = (left.path.counted b (places_on b read k)).count in
            omega (arith, same, few);
        once = λ b k.
            let first = begin_once c.in_ok-make_path_once.ensures b k in
            let few = (left.path.counted b (places_on b read k)).count in
            let most = verdict_most c.args.verdict.now in
            let owed = ap (λ q. if q then 0 else path_reads) c.gather_paths_and_attr.ensures.same.0 in
            omega (arith, first, few, most, owed);
      };
      leaves = record {
        path = record {
          reads = reads_then read left.path.reads;
          counted = λ b k. few_more (few_then (made.makes.leaves.counted b k)
              (left.path.counted b (places_on b read k)))
              (let most = verdict_most c.args.verdict.now in omega (arith, most));
          kept_parent = left.path.kept_parent;
        };
        most = let most = verdict_most c.args.verdict.now in omega (arith, made.most, left.most, most);
      };
    }
