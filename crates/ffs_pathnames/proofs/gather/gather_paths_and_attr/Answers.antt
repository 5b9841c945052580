use Rattle.std.proofs.{Common.{ap, arith, ◌∙◌}, lemmas.Result.IfOk-weaker}
use Rattle.ffs_volume.specs.Report.Reads.{path_reads}
use Rattle.ffs_pathnames.{specs.Gathers.if_wanted, proofs.ReadyLaws.leaves_read}
use Rattle.ffs_pathnames.proofs.gather.gather_paths_and_attr.Goals as goal

pub gather_named_path-requires : goal.gather_named_path-requires
gather_named_path-requires g c = grind arith

pub returns : goal.returns
returns g c =
    let path = c.in_ok-gather_named_path.ensures in
    let wants = c.asks_path-wanted.ensures in
    record {
      enough = IfOk-weaker c.gather_own_path_and_attr.result _ _
          (λ a e dir b k p. e b (ap (λ x. x.contents) path.leaves.path.reads.read ∙ k.gives_bytes) dir
          c.gather_named_path.new.texts.shown_directory.items
          (rw path.same.1 p) (λ q. path.path dir b k (wants ∙ q)))
          c.gather_own_path_and_attr.ensures.enough;
      same = (path.same.0, c.gather_own_path_and_attr.ensures.same ∙ ap (λ p. p.directory) path.same.1);
      leaves = leaves_read c.gather_own_path_and_attr.result path.leaves c.gather_own_path_and_attr.ensures.reads
          (let same = ap (λ q. if_wanted q path_reads) wants in omega (arith, same));
    }
