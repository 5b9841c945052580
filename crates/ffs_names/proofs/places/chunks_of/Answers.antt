use Rattle.std.proofs.Common.{◌∙◌, ap, arith, flat_map, sym}
use Rattle.ffs_volume.specs.Directories.Roles.{roled_chunk}
use Rattle.ffs_names.proofs.{DirCosts.{inode_read, noted_is}, NotedDirs.read_by_chunk, NotedDirs.read_by_cut}
use Rattle.ffs_names.proofs.places.chunks_of.Goals as goal

-- the only chunk is noted
pub returns-in-Some-clause-chunks : goal.returns-in-Some-clause-chunks
returns-in-Some-clause-chunks g c = λ b t n dir.
    let v = c.args.geometry.now.layout in
    let read = read_by_chunk v b c.args.dir c.in-Some.address c.args.geometry.now.sound dir (sym n ∙ c.in-Some.ensures) in
    let begins = (rw c.one_chunk_at-inode.ensures at c.of_class.ensures.begins) (sym read.is_dir) in
    record {
      chunks = ap (flat_map roled_chunk) (begins.chunks b read.small) ∙ read.entries;
      within = omega (arith, c.of_class.ensures.reads.to_read b, begins.runs_left b, read.runs, noted_is v b c.args.dir dir);
    }

-- or its cut is
pub returns-clause-chunks : goal.returns-clause-chunks
returns-clause-chunks g c = λ b t n dir.
    let v = c.args.geometry.now.layout in
    let read = read_by_cut v b c.args.dir c.args.geometry.now.sound dir (c.in_ok-inode.ensures.inode.reads.inode b t) n
    c.cut_in.ensures in
    let begins = c.of_class-2.ensures.begins (sym read.is_dir) in
    let one = c.in_ok-inode.ensures.inode.counted in
    record {
      chunks = ap (flat_map roled_chunk) (begins.chunks b read.small) ∙ read.entries;
      within = omega (
        arith,
        one,
        c.of_class-2.ensures.reads.to_read b,
        begins.runs_left b,
        read.runs,
        noted_is v b c.args.dir dir,
        inode_read v b c.args.dir c.args.note n (rw c.in_default.is at c.address_in.ensures),
      );
    }
