-- The book of definitions. docs/ARCHITECTURE.md, "The book of definitions", says in which order to
-- read the folders, and in which file of src/ stands what a file imports from `declared`. Each folder
-- has its page, with its files in their order. A comment is for the definitions below it, up to the
-- next comment. The lines `use` at the top of a file say where its names come from: begin to read
-- after them.
--
-- Words. What the letters mean, such as `v` and `s`, is in docs/ARCHITECTURE.md, "How a contract is
-- read". The root is inode 2. A place is an offset in bytes, an index counts from 0, and an address
-- is the number of a fragment. A line is a message of the report (folder Messages). A definition with
-- `lines` in its name gives a list of them, of the type of its folder: BlockMessage in Blocks and
-- Groups, TreeMessage in Directories, Message in Report; in Find, whose lines are those of `ffs_find`,
-- the bytes of each. `phase1_messages` and its like in Report have the heading of the phase before its
-- lines. In Report a layout comes before the image that it is of, and a superblock after it.
--
-- Definitions. `abbrev` and `unfoldable` both begin one. Which of them it is, and a line `unfolding`,
-- matter to proofs alone. The first line of a definition gives its type, and its equations follow, by
-- patterns: the first that fits is used, and `_` fits anything. `f x y` is the function f of x and y,
-- and `f : A → B → C` says that f takes an A and a B, and gives a C. `λ x. e` is a function, `◌` is the
-- place of an argument, `data` is an enum, and `{M : Type 0}` a type parameter. `record r { f = x }` is
-- the record r with x as its field f. `x.now` is the value of a constant of the program, and of x
-- where that is a `Bor T`, a reference to a T; a `GName` says to which place a reference refers.
--
-- Numbers and lists. `zero` is 0 and `suc n` is n + 1. On natural numbers `-` stops at 0, and `/` and
-- `%` are those of integers. Of an integer `pos n` is n, and `negsuc n` is -(n + 1). `div_ceil` is the
-- quotient rounded up. `decimal` and `signed_decimal` are the digits of a number, and `codes "ab"` the
-- bytes of a text. `[]` is an empty list, `x ∷ xs` has x before a list, and `++` joins two. Past the
-- end of a list `slice_index` is 0, and `slice_index_or` is its last argument; `take` and `drop` give
-- what there is. `range_with_len a n` are the n numbers from a on. `count_by`, `sum_by` and `flat_map`
-- count, add and join over a list. `cond b x y` is x where b holds, else y. An `Option` is `Some x`,
-- or `None` without a value. A `Result` is `Ok x`, or `Err fault`. `option_map f o` and
-- `option_and_then f o` apply f to the value of o, if any; in the second f gives an `Option`.
--
-- Statements. `==` is a test, and `≡` a statement; `≢` is "is not". Between statements `×` is "and",
-- `⊎` is "or" and `↔` "exactly where", and `Unit {0}` asks nothing. `A → B` between statements is "if
-- A then B", `(x : A) → P` says that P holds of each x, and `(x : A) × B` that there is an x.
-- `IsSomeAnd o p` says that o has a value, and that p holds of it. A record with fields that are
-- statements is a statement, and asks them all; what other fields it has, as a number or a list, it
-- says that there is one. A record whose fields are all values is a value, as `Superblock`. `⊤` holds
-- and `⊥` doesn't; `∥ P ∥₁` says that P holds, and not by which proof. `module _ (x : A) where` begins
-- definitions that all take this x first.
pub mod Disk
pub mod Blocks
pub mod Messages
pub mod Directories
pub mod Groups
pub mod Report
pub mod Find
pub mod Consistent
pub mod Encodings
pub mod Costs
pub mod Laws
pub mod Examples
