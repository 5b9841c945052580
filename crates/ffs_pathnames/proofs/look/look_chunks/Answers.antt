use Rattle.std.proofs.Common.{◌≡◌, ◌<◌, ◌^◌, refl, sym, ap, subst, ◌∙◌, ℕ, List, ◌∷◌, Some, arith, ◌==◌, ◌||◌}
use Rattle.std.specs.List.{flat_map, find}
use Rattle.ffs_image.specs.Device.{Faulted}
use Rattle.ffs_volume.specs.{Blocks.Inodes.inode_of, Directories.{Entries.{Chunk, chunk_of}, Roles.roled_chunk}}
use Rattle.ffs_volume.{specs.Directories.{PathnameCheck.are_sound, Volumes.volume_of}, proofs.Results.fails_with}
use Rattle.ffs_workspace.specs.Holds.{HoldsBlockCheck, HoldsSurvey}
use Rattle.ffs_names.{specs.Readings.{rest, gap_left}, proofs.{DirCosts.runs_are, DirLaws.{dir_is, dir_size}}}
use Rattle.ffs_pathnames.specs.{PassedNames.{are_quiet, after_looks}, Stamps.stamps_of, Sees.passed_of}
use Rattle.ffs_pathnames.{specs.StartChunks.start_chunk, proofs.StampLaws.{words_leave, words_more}}
use Rattle.ffs_pathnames.proofs.SeesLaws.{chunks_are, chunks_read, cut_here, gap_is, seen_are, sees}
use Rattle.ffs_pathnames.proofs.{ReadyLaws.{can_read_in, can_read_more, others_stay, ready_looked}, Looking.chunk_quiet}
use Rattle.ffs_pathnames.proofs.Looking.{chunk_stamps, chunk_sound, all_quiet, all_stamps, all_sound}
use Rattle.ffs_pathnames.proofs.look.look_chunks.Goals as goal

pub chunks-init : goal.chunks-init
unfolding chunks_read
chunks-init g c = let first = (passed_of c.args.workspace.now).stamps in record {
  same = refl;
  geometry = c.start-chunks.ensures.reads.geometry;
  words = record { places = λ x. refl; long = refl };
  others = refl;
  ready = can_read_in _ _ _ c.requires.ready.ready;
  quiet = λ b t h r small. ap (λ cs. are_quiet (volume_of c.args.geometry.now.layout b) c.args.directory.now.number
      c.args.workspace.now.flags.items first (flat_map roled_chunk cs)) (sym (c.start-chunks.ensures.begins.chunks b small));
  stamps = λ b t h r small. ap (λ cs. after_looks (volume_of c.args.geometry.now.layout b)
      c.args.directory.now.number first (flat_map roled_chunk cs))
      (sym (c.start-chunks.ensures.begins.chunks b small));
  sound = λ b t h. ap are_sound (sym (c.start-chunks.ensures.begins.chunks b h));
  gap = λ b t. sym (ap (λ x. x || gap_left b c.start-chunks.result) c.start-chunks.ensures.begins.gap ∙
      c.start-chunks.ensures.begins.gap_left b);
  started = λ b t h. ap (find (λ x. x.offset == 0)) (sym (c.start-chunks.ensures.begins.chunks b h));
  held = λ b t. c.start-chunks.ensures.reads.held c.args.workspace.now.windows.blocks
      c.args.workspace.now.windows.current;
  reads = λ b t.
      let all = c.start-chunks.ensures.reads.to_read b in
      let runs = c.start-chunks.ensures.begins.runs_left b in
      omega (arith, all, runs);
}

pub noted_cut-cut-requires : goal.noted_cut-cut-requires
noted_cut-cut-requires g c = omega (arith, c.requires.ready.ready.ready.made.notes, c.requires.ready.number)

pub look_chunk-looked-requires : goal.look_chunk-looked-requires
look_chunk-looked-requires g c = grind arith

pub chunks-preserved : goal.chunks-preserved
chunks-preserved g c =
    let v = c.args.geometry.now.layout in
    let x = c.args.directory.now in
    let w = c.args.workspace.now in
    let made = c.requires.ready.ready.ready.made in
    let inv = c.chunks.invariant in
    let old = stamps_of c.args.workspace.now.parents.items c.chunks.words.items in
    let look = c.look_chunk-looked.ensures in
    let seen = λ (b : List ℕ) (h : HoldsBlockCheck v b w) (r : HoldsSurvey v b w). sees v b w _ (record {
      kinds = c.as_slice.ensures.value;
      marked = refl;
      parents = refl;
      count = c.as_slice.ensures.len ∙ made.kinds;
    }) h r in
    let now = λ (b : List ℕ) (t : (g.I.Image.device c.args.image.now).contents ≡ Some b). ap (λ d. d.contents) inv.same
    ∙ t in
    let read = rw c.in-Some.is at c.in_ok-offset.ensures.chunk in
    let order = c.args.geometry.now.layout.order in
    let here : Chunk = chunk_of order c.in-Some.offset c.next.new.chunk in
    let next = λ (b : List ℕ) (t : (g.I.Image.device c.args.image.now).contents ≡ Some b).
    (read b (now b t)).chunks ∙ ap (λ q. chunk_of q.layout.order c.in-Some.offset c.next.new.chunk ∷ rest b
    c.next.new.self) inv.geometry in
    record {
      same = c.in_ok-offset.ensures.leaves.read ∙ inv.same;
      geometry = c.in_ok-offset.ensures.leaves.geometry ∙ inv.geometry;
      words = words_more inv.words look.stamps.words;
      others = others_stay c.args.workspace.now.windows c.chunks.windows c.next.new.blocks c.next.new.window inv.others;
      ready = rw inv.geometry at c.in_ok-offset.ensures.leaves.ready;
      quiet = λ b t h r small. chunk_quiet (volume_of v b) x.number w.flags.items old c.chunks.quiet (next b t)
          (look.quiet (volume_of v b) (seen b h r)) (look.stamps.after (volume_of v b) (seen b h r))
          (inv.quiet b t h r small);
      stamps = λ b t h r small. chunk_stamps (volume_of v b) x.number old (next b t)
          (look.stamps.after (volume_of v b) (seen b h r)) (inv.stamps b t h r small);
      sound = λ b t h. chunk_sound c.chunks.sound (next b t) look.sound (inv.sound b t h);
      gap = λ b t. inv.gap b t ∙ sym (read b (now b t)).gap;
      started = λ b t h. inv.started b t h ∙ (ap (λ l. start_chunk l c.chunks.started order c.chunks.start) (next b t)
          ∙ c.keep_start-started.ensures order (rest b c.next.new.self));
      held = λ b t. (c.in_ok-offset.ensures.reads (inv.held b t) b (now b t)).held;
      reads = λ b t.
          let paid = (c.in_ok-offset.ensures.reads (inv.held b t) b (now b t)).paid in
          omega (arith, paid, inv.reads b t);
    }

pub next-requires : goal.next-requires
next-requires g c = let inv = c.chunks.invariant in rw inv.geometry inv.ready

pub gap_of-requires : goal.gap_of-requires
gap_of-requires g c = let read = c.in_ok-offset.ensures in rw read.leaves.geometry read.leaves.ready.walk

pub returns : goal.returns
returns g c =
    let v = c.args.geometry.now.layout in
    let x = c.args.directory.now in
    let w = c.args.workspace.now in
    let sound = c.args.geometry.now.sound in
    let inv = c.chunks.invariant in
    let next = c.in_ok-offset.ensures in
    let read = next.leaves in
    let gap = c.in_ok-gap.ensures in
    record {
      looks = record {
        found = λ b k.
            let dir = dir_is v b x.number k.0.dir in
            let small = subst (λ i. i.size < 2 ^ 31) (sym k.1) (dir_size v (inode_of v b x.number) dir.1) in
            let cut = cut_here x.number sound c.noted_cut-cut.ensures k.0.block_check in
            let chunks = chunks_are v b x.number sound dir.0 k.1 cut in
            let t = k.0.gives_bytes in
            let now = ap (λ d. d.contents) inv.same ∙ t in
            let later = ap (λ d. d.contents) (read.read ∙ inv.same) ∙ t in
            let came = (rw c.in_default.is at next.chunk) b now in
            let none = came.chunks.0 in (
              record {
                gap = gap.gap b later ∙ (came.gap ∙ (sym (inv.gap b t) ∙ gap_is v b x.number sound dir.0 k.1 cut));
                sound = all_sound c.chunks.sound none (inv.sound b t small) ∙ ap are_sound chunks;
                started = sym (ap (find (λ e. e.offset == 0)) chunks) ∙ (inv.started b t small
                    ∙ ap (λ l. start_chunk l c.chunks.started v.order c.chunks.start) none);
                quiet = all_quiet (volume_of v b) x.number w.flags.items _ c.chunks.quiet none (inv.quiet b t k.0.block_check k.0.survey small)
                    ∙ ap (are_quiet (volume_of v b) x.number w.flags.items (passed_of w).stamps) (seen_are v b x.number _ chunks);
              },
              all_stamps (volume_of v b) x.number _ none (inv.stamps b t k.0.block_check k.0.survey small)
                  ∙ ap (after_looks (volume_of v b) x.number (passed_of w).stamps) (seen_are v b x.number _ chunks),
            );
        leaves = record {
          lists = words_leave w _ refl inv.words.places;
          ready = ready_looked v _ _ w _ _ c.requires.ready.ready
              (ap (λ d. d.contents) (gap.leaves.read ∙ (read.read ∙ inv.same)))
              (others_stay w.windows c.chunks.windows c.gap_of.new.blocks c.next.new.window inv.others)
              (can_read_more v _ _ _ _ _ (rw inv.geometry at read.ready) (ap (λ d. d.contents) gap.leaves.read)
              (rw (read.geometry ∙ inv.geometry) at gap.leaves.ready)) inv.words.long;
          read = gap.leaves.read ∙ (read.read ∙ inv.same);
        };
      };
      cost = λ b k.
          let t = k.0.gives_bytes in
          let cut = cut_here x.number c.args.geometry.now.sound c.noted_cut-cut.ensures k.0.block_check in
          let took = next.reads (inv.held b t) b (ap (λ d. d.contents) inv.same ∙ t) in
          let most = (gap.leaves.counted c.next.new.window took.held b
          (ap (λ d. d.contents) (read.read ∙ inv.same) ∙ t)).most in
          omega (arith, most, took.paid, inv.reads b t, runs_are v b x.number x.inode c.noted_cut-cut.result k.1 cut);
    }

-- a read failed
pub returns-in_err-offset : goal.returns-in_err-offset
returns-in_err-offset g c =
    let v = c.args.geometry.now.layout in
    let x = c.args.directory.now in
    let w = c.args.workspace.now in
    let inv = c.chunks.invariant in
    let read = c.in_err-offset.ensures.leaves in
    rw (fails_with _ c.from_residual.ensures.1) (record {
      looks = record {
        found = tt;
        leaves = record {
          lists = words_leave w _ refl inv.words.places;
          ready = ready_looked v _ _ w _ _ c.requires.ready.ready
              (read.read.contents ∙ ap (λ d. d.contents) inv.same)
              (others_stay w.windows c.chunks.windows c.next.new.blocks c.next.new.window inv.others)
              (rw inv.geometry at read.ready) inv.words.long;
          read = subst (λ d. Faulted d (g.I.Image.device c.next.new.image) c.in_err-offset.field-0.0.sector) inv.same
              read.read;
        };
      };
      cost = λ b k.
          let t = k.0.gives_bytes in
          let cut = cut_here x.number c.args.geometry.now.sound c.noted_cut-cut.ensures k.0.block_check in
          let most = (c.next.ensures.reads (inv.held b t) b (ap (λ d. d.contents) inv.same ∙ t)).most in
          omega (arith, most, inv.reads b t, runs_are v b x.number x.inode c.noted_cut-cut.result k.1 cut);
    })

pub returns-in_err-gap : goal.returns-in_err-gap
returns-in_err-gap g c =
    let v = c.args.geometry.now.layout in
    let x = c.args.directory.now in
    let w = c.args.workspace.now in
    let inv = c.chunks.invariant in
    let read = c.in_ok-offset.ensures.leaves in
    let gap = c.in_err-gap.ensures.leaves in
    rw (fails_with _ c.from_residual-in_err-gap.ensures.1) (record {
      looks = record {
        found = tt;
        leaves = record {
          lists = words_leave w _ refl inv.words.places;
          ready = ready_looked v _ _ w _ _ c.requires.ready.ready
              (gap.read.contents ∙ ap (λ d. d.contents) (read.read ∙ inv.same))
              (others_stay w.windows c.chunks.windows c.gap_of.new.blocks c.next.new.window inv.others)
              (can_read_more v _ _ _ _ _ (rw inv.geometry at read.ready) gap.read.contents
              (rw (read.geometry ∙ inv.geometry) at gap.ready)) inv.words.long;
          read = subst (λ d. Faulted d (g.I.Image.device c.gap_of.new.image) c.in_err-gap.field-0.0.sector)
              (read.read ∙ inv.same) gap.read;
        };
      };
      cost = λ b k.
          let t = k.0.gives_bytes in
          let cut = cut_here x.number c.args.geometry.now.sound c.noted_cut-cut.ensures k.0.block_check in
          let took = c.in_ok-offset.ensures.reads (inv.held b t) b (ap (λ d. d.contents) inv.same ∙ t) in
          let most = (c.gap_of.ensures.leaves.counted c.next.new.window took.held b
          (ap (λ d. d.contents) (read.read ∙ inv.same) ∙ t)).most in
          omega (arith, most, took.paid, inv.reads b t, runs_are v b x.number x.inode c.noted_cut-cut.result k.1 cut);
    })
