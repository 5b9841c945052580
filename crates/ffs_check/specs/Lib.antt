-- What the contracts of a whole check and of a program cite, in the order to read it: each file rests on those
-- before it. The public functions, what their clauses are, and in which files:
--
--   check, check_in                 Headline (`Headline`), HaveFailed (`Failures`), CostsOfSystem or Costs (`Costs`),
--                                   ReadsWithin (`Reads`)
--   check_opening                   Opens (`Opening`)
--   check_rest                      RunsToEnd (`AllPhases`)
--   run_phases                      HaveRun, SaysSections and PhasesLeave (`AllPhases`), PhasesPay (`Reads`)
--   run_program_over, run_over      RunsProgram (`Run`)
--   run_program, run                RunsProgramFlushed (`Run`), which has a RunsProgram in it
--   parse_args                      AskFor or AreRefusedBy (`CommandWords`)
--
-- Many names have "end" in them. `End` of the book is the value that a check returns. Who leads to whom:
--
--   Ends             a text and an end, of whatever text: all of it went out, or a line cut it short, or the output
--                    failed. What the end is then, and what may cut the text short, are its arguments
--   Headline         Ends of the whole report, with IsEndOfReport (the end: EndAgrees with the text, and Certifies)
--                    and IsCutOfReport (what may cut it: IsCutAtSuper, IsCutLater, IsCutByMemory)
--   EndsAfterPhases  (in the file `AllPhases`) Ends of the text after the opening, with IsEndByRoot and IsCutByRead
--   RunsToEnd        EndsAfterPhases, and what the phases read and leave
--   OpeningEnds      of the opening alone, in words of its own; in OpeningOf, and so in Opens
--   MakesEnd         which end the answer of `run_phases` makes, and the line that is said then: LineEnds, by
--                    SaysReadFault. HaveRun and MakesEnd together lead to EndsAfterPhases
--   RunsProgram      of a run of a program, and not of a check: for `fsck_ffs` it has an IsChecked (`Fsck`), and so a
--                    Headline
--
-- The check: `Moment`, `Ends`, `Headings` and `Headline` are the first clause. `Failures` says how many reads and
-- writes failed, `Taken` what is taken of the memory, `Reads` how often the image is read, and `Costs` the last two of
-- any image.
--
-- Its parts: `Opening` is about the text before the phases; `Rescan` has what phase 1b leaves and reads, and what a
-- workspace answers after a check of its DUP lines and Runs; `AllPhases` is about all phases, and about what follows an
-- accepted superblock (FollowsAccepted of `check_accepted`).
--
-- The programs: `Program` is what a program says of itself, `CommandWords` what its words ask for, `Refusals` what is
-- written where they are wrong, `Run` how a run of any program ends, and `Fsck` what `fsck_ffs` says of itself.
pub mod Moment
pub mod Ends
pub mod Headings
pub mod Headline
pub mod Failures
pub mod Taken
pub mod Reads
pub mod Costs
pub mod Opening
pub mod Rescan
pub mod AllPhases
pub mod Program
pub mod CommandWords
pub mod Refusals
pub mod Run
pub mod Fsck
