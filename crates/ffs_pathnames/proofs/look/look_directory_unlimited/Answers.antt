use Rattle.std.proofs.{Common.{◌≤◌, ◌+◌, ◌∙◌, ap, arith, refl, ℕ, List}}
use Rattle.ffs_workspace.proofs.Leaving.{claims_held, survey_held}
use Rattle.ffs_volume.specs.Costs.DirectoryReads.{directory_cost}
use Rattle.ffs_pathnames.{specs.KnowsAtDirectory.{KnowsAtDirectory, KnowsDirectory}}
use Rattle.ffs_pathnames.proofs.look.look_directory_unlimited.{Given.Over, Goals.After-look_chunks}
use Rattle.ffs_pathnames.proofs.look.look_directory_unlimited.Goals as goal

-- what is known of the directory once its inode is read
known : (g : Over) (c : After-look_chunks g) (b : List ℕ) → KnowsAtDirectory c.args.geometry.now.layout
    (g.I.Image.device c.args.image.now).contents c.args.workspace.now c.args.dir b →
    KnowsDirectory c.args.geometry.now.layout (g.I.Image.device c.inode_by_piece.new.image)
    (record c.args.workspace.now
    { windows = record c.args.workspace.now.windows { table = c.inode_by_piece.new.self } })
    (record { number = c.args.dir; inode = c.in_ok-inode.inode }) b
known g c b k =
    let read = c.in_ok-inode.ensures.inode.reads in (
      record {
        gives_bytes = ap (λ d. d.contents) read.read ∙ k.gives_bytes;
        block_check = claims_held _ b _ _ refl k.block_check;
        survey = survey_held _ b _ _ refl k.survey;
        noted = k.noted;
        dir = k.dir;
      },
      read.inode b k.gives_bytes,
    )

-- the reads
reads_few : (g : Over) (c : After-look_chunks g) (b : List ℕ) → KnowsAtDirectory c.args.geometry.now.layout
    (g.I.Image.device c.args.image.now).contents c.args.workspace.now c.args.dir b →
    g.I.Image.reads c.look_chunks.new.image
    ≤ g.I.Image.reads c.args.image.now + directory_cost c.args.geometry.now.layout b c.args.dir
reads_few g c b k = grind (arith, known)

pub inode_by_piece-requires : goal.inode_by_piece-requires
inode_by_piece-requires g c = grind arith

pub look_chunks-requires : goal.look_chunks-requires
look_chunks-requires g c = grind arith

pub returns : goal.returns
returns g c = grind (arith, known)

-- a read failed
pub returns-in_err-inode : goal.returns-in_err-inode
returns-in_err-inode g c = grind arith

pub returns-in_err-chunks : goal.returns-in_err-chunks
returns-in_err-chunks g c = grind (arith, reads_few)
