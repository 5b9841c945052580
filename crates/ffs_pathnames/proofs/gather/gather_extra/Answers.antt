use Rattle.std.proofs.{Common.{ap, ◌∙◌, arith}, lemmas.Result.IfOk-weaker}
use Rattle.ffs_volume.{specs.Directories.{Naming.graph_of, Volumes.volume_of}, proofs.Results.fails_with}
use Rattle.ffs_paths.proofs.Sparing.{on_all}
use Rattle.ffs_pathnames.proofs.{ReadyLaws.{gather_failed, leaves_read}, PathOnce.{begin_alone, begin_once}}
use Rattle.ffs_pathnames.proofs.gather.gather_extra.Goals as goal

pub returns-in_err-make_path_once : goal.returns-in_err-make_path_once
returns-in_err-make_path_once g c =
    let made = c.in_err-make_path_once.ensures in
    rw (fails_with _ c.from_residual.ensures.1) (record {
      attr = tt;
      text = tt;
      path = made.makes.makes.path;
      once = begin_alone made tt;
      leaves = gather_failed c.in_err-make_path_once.field-0.0
          (record { path = made.makes.makes.leaves; most = made.makes.most }) (omega arith);
    })

pub returns : goal.returns
returns g c =
    let made = c.in_ok-make_path_once.ensures.makes in
    let read = c.read_attr.ensures.reads in
    record {
      attr = IfOk-weaker c.read_attr.result _ _
          (λ a h b k. h b (ap (λ d. d.contents) made.makes.leaves.reads.read ∙ k.gives_bytes))
          c.read_attr.ensures.attr;
      text = on_all c.read_attr.result _
          (λ b k. c.put.ensures (graph_of (volume_of c.args.geometry.now.layout b)) c.args.dir (made.makes.made b k));
      path = made.makes.path;
      once = record {
        settled = on_all c.read_attr.result _ made.makes.settled;
        stays = made.makes.stays;
        again = λ before b k.
            let same = ap g.I.Image.reads (c.in_ok-make_path_once.ensures.held before).0 in
            omega (arith, same, read.counted.count);
        once = λ b k.
            let first = begin_once c.in_ok-make_path_once.ensures b k in
            omega (arith, first, read.counted.count);
      };
      leaves = leaves_read c.read_attr.result (record { path = made.makes.leaves; most = made.most })
          c.read_attr.ensures.reads (omega arith);
    }
