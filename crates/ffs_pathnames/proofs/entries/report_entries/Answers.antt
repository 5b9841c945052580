use Rattle.std.proofs.Common.{refl, sym, ap, subst, ◌∙◌, ◌≡◌, ◌≤◌, ◌+◌, ℕ, Some, List, [], ◌∷◌, map, Err, arith}
use Rattle.std.{proofs.lemmas.Bool.both_ways, specs.List.flat_map}
use Rattle.ffs_image.specs.Device.{Faulted}
use Rattle.ffs_volume.{proofs.Numbered.as_many, specs.Directories.{Entries.{Chunk, chunk_of}, Roles.roled_chunk}}
use Rattle.ffs_volume.{specs.{Directories.Volumes.volume_of, Messages.Kinds.of_tree}, proofs.Results.fails_with}
use Rattle.ffs_volume.specs.Costs.DirectoryReads.{directory_runs}
use Rattle.ffs_workspace.specs.{Leaves.LeavesSurvey, declared.workspace.Workspace.Workspace}
use Rattle.ffs_workspace.proofs.Leaving.{leaves_all, leaves_more, windows_leave}
use Rattle.ffs_names.{specs.{Readings.rest, Costs.{to_read, HoldsReading}}, proofs.DirCosts.runs_are}
use Rattle.ffs_report.proofs.Reporting.{of_begins, of_reads, of_same, of_part, of_fault, said_knows, reports_knowing}
use Rattle.ffs_report.proofs.Paying.{paid_beside, paid_failed, paid_none, paid_then, paid_within}
use Rattle.ffs_pathnames.specs.{KnowsAtDirectory.KnowsAtDirectory, PassedNames.{after_entries, entries_reported}, Sees.passed_of}
use Rattle.ffs_pathnames.proofs.{StampLaws.{keep_more, noted_kept}, Passing.{chunk_reported, chunk_passed, knows_on}}
use Rattle.ffs_pathnames.proofs.{Passing.all_read, ReadyLaws.{can_read_in, leaves_after, windows_next, windows_read}}
use Rattle.ffs_pathnames.{specs.ReadsLeft.KnowsForRuns, proofs.{LineCounts.lines_long, SeesLaws.cut_here}}
use Rattle.ffs_pathnames.proofs.entries.report_entries.{Given.Over, Goals.After-next_chunk}
use Rattle.ffs_pathnames.proofs.entries.report_entries.Goals as goal

-- what is known of the bytes, at the beginning
abbrev Known : (g : Over) → After-next_chunk g → List ℕ → Type 0
Known g c = KnowsForRuns c.args.geometry.now.layout (g.I.Image.device c.args.image.now) c.args.workspace.now
    c.args.directory.now c.args.checking.now.reads_left

-- these are the bytes of the image as it is now
now : (g : Over) (c : After-next_chunk g) (b : List ℕ) → Known g c b → (g.I.Image.device c.chunks.image).contents ≡ Some b
now g c b k = ap (λ d. d.contents) c.chunks.invariant.device ∙ k.0.0.gives_bytes

-- the reads that are left suffice for the chunks to come
enough : (g : Over) (c : After-next_chunk g) (b : List ℕ) → Known g c b →
    to_read b c.chunks.chunks ≤ c.chunks.checking.reads_left
enough g c b k = omega (arith, c.chunks.invariant.spent b k, k.1)

-- what the next chunk was read by is held
held : (g : Over) (c : After-next_chunk g) (b : List ℕ) → Known g c b →
    HoldsReading c.chunks.workspace.windows.blocks c.chunks.workspace.windows.current c.chunks.chunks
held g c b k = c.chunks.invariant.held b k k.0.0.noted

-- the workspace between the chunk and its lines
abbrev between : (g : Over) → After-next_chunk g → Workspace
between g c = record c.chunks.workspace { windows = c.next_chunk.new.windows }

kept_between : (g : Over) (c : After-next_chunk g) → LeavesSurvey c.args.workspace.now (between g c)
kept_between g c = leaves_more c.chunks.invariant.survey (windows_leave c.chunks.workspace (between g c) refl)

-- what is known there
know : (g : Over) (c : After-next_chunk g) → g.I.Image.device c.next_chunk.new.image ≡ g.I.Image.device c.chunks.image →
    (b : List ℕ) → Known g c b → KnowsAtDirectory c.args.geometry.now.layout
    (g.I.Image.device c.next_chunk.new.image).contents (between g c) c.args.directory.now.number b
know g c read b k = knows_on c.args.geometry.now.layout (g.I.Image.device c.args.image.now).contents
    (g.I.Image.device c.next_chunk.new.image).contents c.args.workspace.now (between g c) c.args.directory.now.number b
    (ap (λ d. d.contents) (read ∙ c.chunks.invariant.device)) (kept_between g c) c.chunks.invariant.places k.0.0

pub chunks-init : goal.chunks-init
chunks-init g c =
    let v = c.args.geometry.now.layout in
    let x = c.args.directory.now in
    let m = passed_of c.args.workspace.now in
    let known = KnowsForRuns v (g.I.Image.device c.args.image.now) c.args.workspace.now x
    c.args.checking.now.reads_left in
    let cut = λ (b : List ℕ) (k : known b). cut_here x.number c.args.geometry.now.sound c.noted_cut-cut.ensures k.0.0.block_check in
    let seen = λ (b : List ℕ) (k : known b). all_read v b x.number x.inode c.noted_cut-cut.result (rest b c.start-chunks.result)
    c.args.geometry.now.sound k.0.0.dir k.0.1 (cut b k) (c.start-chunks.ensures.begins.chunks b) in
    let lines = λ (b : List ℕ) (k : known b).
    ap (λ es. map of_tree (entries_reported (volume_of v b) x.number m es)) (sym (seen b k)) in
    let few : (b : List ℕ) → known b → to_read b c.start-chunks.result ≤ directory_runs v b x.number = λ b k.
    let all = c.start-chunks.ensures.reads.to_read b in
    let left = c.start-chunks.ensures.begins.runs_left b in
    omega (arith, all, left, runs_are v b x.number x.inode c.noted_cut-cut.result k.0.1 (cut b k)) in
    record {
      ready = record { ready = c.requires.ready; kept_parent = c.requires.kept_parent };
      device = refl;
      geometry = c.start-chunks.ensures.reads.geometry;
      survey = leaves_all _;
      places = λ x. refl;
      held = λ b k noted.
          c.start-chunks.ensures.reads.held c.args.workspace.now.windows.blocks c.args.workspace.now.windows.current;
      reads = λ b k noted. let long = as_many _ _ (lines b k) in omega (arith, long, few b k);
      once = λ b k noted. let long = as_many _ _ (lines b k) in omega (arith, long, few b k);
      spent = λ b k. omega (arith, few b k);
      paid = paid_none (omega arith);
      path = λ b k settled. absurd (both_ways _ refl settled);
      passed = λ b k. ap (after_entries (volume_of v b) x.number m) (sym (seen b k));
      said = of_same of_begins lines;
    }

pub noted_cut-cut-requires : goal.noted_cut-cut-requires
noted_cut-cut-requires g c = omega (arith, c.requires.ready.ready.made.notes, c.requires.number)

pub next_chunk-requires : goal.next_chunk-requires
next_chunk-requires g c = let inv = c.chunks.invariant in rw inv.geometry (can_read_in _ _ _ inv.ready.ready)

pub report_chunk-requires : goal.report_chunk-requires
report_chunk-requires g c =
    let inv = c.chunks.invariant in
    let read = c.in_ok-offset.ensures in
    let next = windows_next _ _ _ c.chunks.workspace _ _ inv.ready read.leaves.read read.leaves.others
    (rw inv.geometry at read.leaves.ready) in
    record { ready = next.ready; kept_parent = next.kept_parent; number = c.requires.number }

pub chunks-preserved : goal.chunks-preserved
chunks-preserved g c =
    let at = (goal.at.chunks-preserved g c).After-next_chunk in
    let v = c.args.geometry.now.layout in
    let x = c.args.directory.now in
    let inv = c.chunks.invariant in
    let read = c.in_ok-offset.ensures in
    let ok = c.in_ok-report_chunk.ensures in
    let m = passed_of c.chunks.workspace in
    let known = know g at read.leaves.read in
    let chunk : Chunk = chunk_of v.order c.in-Some.offset c.next_chunk.new.bytes in
    let came = rw c.in-Some.is at read.chunk in
    let next = λ (b : List ℕ) (k : Known g at b). (came.chunk (held g at b k) b (now g at b k) (enough g at b k)).chunks ∙ ap
    (λ q. chunk_of q.layout.order c.in-Some.offset c.next_chunk.new.bytes ∷ rest b c.next_chunk.new.chunks) inv.geometry in
    record {
      ready = ok.leaves.ready;
      device = ok.leaves.image ∙ (read.leaves.read ∙ inv.device);
      geometry = read.leaves.geometry ∙ inv.geometry;
      survey = leaves_more (kept_between g at) ok.leaves.survey;
      places = keep_more _ _ _ inv.places ok.leaves.places;
      held = λ b k noted.
          let took = read.takes.reads (inv.held b k noted) b (now g at b k) (enough g at b k) in
          let few = c.report_chunk.ensures.lines.counted b (known b k)
          (noted_kept v b c.args.workspace.now.words.items c.chunks.workspace.words.items inv.places noted) in
          rw (few.blocks, c.report_chunk.ensures.current) took.held;
      reads = λ b k noted.
          let took = read.takes.reads (inv.held b k noted) b (now g at b k) (enough g at b k) in
          let few = c.report_chunk.ensures.lines.counted b (known b k)
          (noted_kept v b c.args.workspace.now.words.items c.chunks.workspace.words.items inv.places noted) in
          let long = lines_long _ _ _ (chunk_reported (volume_of v b) x.number m chunk _ _ (next b k)
          (ok.passed b (known b k))) in
          omega (arith, took.paid, few.count, long, inv.reads b k noted);
      once = λ b k noted.
          let took = read.takes.reads (inv.held b k noted) b (now g at b k) (enough g at b k) in
          let here = c.report_chunk.ensures.lines.once b (known b k)
          (noted_kept v b c.args.workspace.now.words.items c.chunks.workspace.words.items inv.places noted) in
          let long = lines_long _ _ _ (chunk_reported (volume_of v b) x.number m chunk _ _ (next b k)
          (ok.passed b (known b k))) in
          omega (arith, took.paid, here, long, inv.once b k noted);
      spent = λ b k.
          let took = read.takes.spends (held g at b k) b (now g at b k) (enough g at b k) in
          omega (arith, took.paid, inv.spent b k);
      paid =
          let looked = paid_within inv.paid (omega arith) read.takes.most in
          paid_then looked (paid_beside c.next_chunk.new.reads_left ok.lines.paid);
      path = λ b k. c.report_chunk.ensures.lines.path b (record { knows = known b k; path = inv.path b k });
      passed = λ b k. chunk_passed (volume_of v b) x.number m (next b k) (ok.passed b (known b k)) (inv.passed b k);
      said = of_part inv.said
          (λ b k. chunk_reported (volume_of v b) x.number m chunk _ _
          (next b k) (ok.passed b (known b k)))
          (said_knows (λ b k. record
          { knows = known b k; path = inv.path b k }) ok.lines.text);
    }

-- the reads that are left
left_of : (g : Over) (c : After-next_chunk g) (b : List ℕ) → Known g c b →
    c.args.checking.now.reads_left
    ≤ c.next_chunk.new.reads_left + directory_runs c.args.geometry.now.layout b c.args.directory.now.number
left_of g c b k =
    let took = c.next_chunk.ensures.takes.spends (held g c b k) b (now g c b k) (enough g c b k) in
    omega (arith, took.most, c.chunks.invariant.spent b k)

-- what is said, what is read for it, and what is left
pub returns-in_err-offset-clause-lines : goal.returns-in_err-offset-clause-lines
returns-in_err-offset-clause-lines g c =
    let at = (goal.at.returns-in_err-offset-clause-lines g c).After-next_chunk in
    let inv = c.chunks.invariant in
    let read = c.in_err-offset.ensures in
    rw (fails_with _ c.from_residual.ensures.1) (record {
      text = of_reads inv.said;
      reads = λ b k noted.
          let most = (read.takes.reads (inv.held b k noted) b (now g at b k) (enough g at b k)).most in
          omega (arith, most, inv.reads b k noted);
      spends = left_of g at;
      paid = paid_then inv.paid (paid_failed read.takes.most);
      holds = tt;
      leaves = record {
        image = subst (λ d. Faulted d (g.I.Image.device c.next_chunk.new.image) c.in_err-offset.field-0.0.sector)
            inv.device read.leaves.read;
        survey = kept_between g at;
        places = inv.places;
        ready = windows_read _ _ _ c.chunks.workspace _ inv.ready.ready read.leaves.read.contents read.leaves.others
            (rw inv.geometry at read.leaves.ready);
      };
    })

pub returns-in_err-report_chunk-clause-lines : goal.returns-in_err-report_chunk-clause-lines
returns-in_err-report_chunk-clause-lines g c =
    let at = (goal.at.returns-in_err-report_chunk-clause-lines g c).After-next_chunk in
    let v = c.args.geometry.now.layout in
    let x = c.args.directory.now in
    let inv = c.chunks.invariant in
    let read = c.in_ok-offset.ensures in
    let m = passed_of c.chunks.workspace in
    let known = know g at read.leaves.read in
    let chunk : Chunk = chunk_of v.order c.in-Some.offset c.next_chunk.new.bytes in
    let came = rw c.in-Some.is at read.chunk in
    let next = λ (b : List ℕ) (k : Known g at b). (came.chunk (held g at b k) b (now g at b k) (enough g at b k)).chunks ∙ ap
    (λ q. chunk_of q.layout.order c.in-Some.offset c.next_chunk.new.bytes ∷ rest b c.next_chunk.new.chunks) inv.geometry in
    let fault = c.in_err-report_chunk.field-0.0 in
    let lines = c.in_err-report_chunk.ensures.lines in
    rw (fails_with _ c.from_residual-in_err-report_chunk.ensures.1) (record {
      text = of_fault (Unit {0}) (Unit {0}) _ _ _ _ _ _ _ _ fault inv.said
          (λ b k. chunk_reported (volume_of v b) x.number m chunk _ _ (next b k) refl)
          (reports_knowing (Unit {0}) _ _ _ _ _ (Err fault)
          (λ b k. record { knows = known b k; path = inv.path b k }) lines.text);
      reads = λ b k noted.
          let took = read.takes.reads (inv.held b k noted) b (now g at b k) (enough g at b k) in
          let few = lines.counted b (known b k)
          (noted_kept v b c.args.workspace.now.words.items c.chunks.workspace.words.items inv.places noted) in
          let long = lines_long _ _ _ (chunk_reported (volume_of v b) x.number m chunk _ _ (next b k) refl) in
          omega (arith, took.paid, few.count, long, inv.reads b k noted);
      spends = left_of g at;
      paid =
          let looked = paid_within
          {before' = g.I.Image.reads c.args.image.now + c.args.checking.now.reads_left} inv.paid
          (omega arith) read.takes.most in
          paid_then looked (paid_beside c.next_chunk.new.reads_left lines.paid);
      holds = tt;
      leaves = leaves_after (read.leaves.read ∙ inv.device) (kept_between g at) inv.places
          c.in_err-report_chunk.ensures.leaves;
    })

pub returns-clause-lines : goal.returns-clause-lines
returns-clause-lines g c =
    let at = (goal.at.returns-clause-lines g c).After-next_chunk in
    let v = c.args.geometry.now.layout in
    let x = c.args.directory.now in
    let inv = c.chunks.invariant in
    let m = passed_of c.chunks.workspace in
    let read = c.in_ok-offset.ensures in
    let came = rw c.in_default.is at read.chunk in
    let none = λ (b : List ℕ) (k : Known g at b). (came.chunk (held g at b k) b (now g at b k) (enough g at b k)).chunks.0 in
    record {
      text = of_same {rest' = λ b. []} inv.said
          (λ b k. ap (λ cs. map of_tree (entries_reported (volume_of v b) x.number m (flat_map roled_chunk cs)))
          (none b k));
      reads = λ b k noted.
          let most = (read.takes.reads (inv.held b k noted) b (now g at b k) (enough g at b k)).most in
          omega (arith, most, inv.reads b k noted);
      spends = left_of g at;
      paid =
          paid_within inv.paid (omega arith) read.takes.most;
      holds = λ b k. inv.passed b k
          ∙ ap (λ cs. after_entries (volume_of v b) x.number m (flat_map roled_chunk cs)) (none b k);
      leaves = record {
        image = read.leaves.read ∙ inv.device;
        survey = kept_between g at;
        places = inv.places;
        ready = windows_next _ _ _ c.chunks.workspace _ _ inv.ready read.leaves.read read.leaves.others
            (rw inv.geometry at read.leaves.ready);
      };
    }

-- ---- the path is made once
pub returns-in_err-offset-clause-once : goal.returns-in_err-offset-clause-once
returns-in_err-offset-clause-once g c = λ b k noted.
    let at = (goal.at.returns-in_err-offset-clause-once g c).After-next_chunk in
    let inv = c.chunks.invariant in
    let most = (c.in_err-offset.ensures.takes.reads (inv.held b k noted) b (now g at b k) (enough g at b k)).most in
    omega (arith, most, inv.once b k noted)

pub returns-in_err-report_chunk-clause-once : goal.returns-in_err-report_chunk-clause-once
returns-in_err-report_chunk-clause-once g c = λ b k noted.
    let at = (goal.at.returns-in_err-report_chunk-clause-once g c).After-next_chunk in
    let v = c.args.geometry.now.layout in
    let x = c.args.directory.now in
    let inv = c.chunks.invariant in
    let read = c.in_ok-offset.ensures in
    let m = passed_of c.chunks.workspace in
    let known = know g at read.leaves.read in
    let chunk : Chunk = chunk_of v.order c.in-Some.offset c.next_chunk.new.bytes in
    let came = rw c.in-Some.is at read.chunk in
    let next = (came.chunk (held g at b k) b (now g at b k) (enough g at b k)).chunks ∙ ap
    (λ q. chunk_of q.layout.order c.in-Some.offset c.next_chunk.new.bytes ∷ rest b c.next_chunk.new.chunks) inv.geometry in
    let took = read.takes.reads (inv.held b k noted) b (now g at b k) (enough g at b k) in
    let here = c.in_err-report_chunk.ensures.lines.once b (known b k)
    (noted_kept v b c.args.workspace.now.words.items c.chunks.workspace.words.items inv.places noted) in
    let long = lines_long _ _ _ (chunk_reported (volume_of v b) x.number m chunk _ _ next refl) in
    omega (arith, took.paid, here, long, inv.once b k noted)

pub returns-clause-once : goal.returns-clause-once
returns-clause-once g c = λ b k noted.
    let at = (goal.at.returns-clause-once g c).After-next_chunk in
    let inv = c.chunks.invariant in
    let most = (c.in_ok-offset.ensures.takes.reads (inv.held b k noted) b (now g at b k) (enough g at b k)).most in
    omega (arith, most, inv.once b k noted)
