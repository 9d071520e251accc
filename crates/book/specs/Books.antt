-- What the calls on a book answer, and what they leave in it.
use Rattle.std.specs.Prelude.{◌≡◌, ℕ, ◌+◌, ◌<◌, Bool, true, false, cond, List, length, ℤ, is_some, is_ok, Some, None, Ok, Err, Option, Result, ◌==◌}
use Rattle.chain.specs.declared.chain.Chain.{Chain}
use Rattle.chain.specs.Covers.{same_chain}
use Rattle.chain.specs.Plan.{plan_of}
use Rattle.chain.specs.Texts.{read_chain}
use Rattle.chain.specs.Views.{relays_of, streams_of}
use Rattle.book.specs.declared.book.Book.{Book}
use Rattle.book.specs.declared.fault.BookFault.{BookFault}
use Rattle.book.specs.declared.fault.BookFault.TheVariants.{EditsExhausted, NoChain, EditsMoved, Reading, Judging, NamesNothing, MemoryTooShort, OutOfMemory}
use Rattle.book.specs.declared.goal.Goal.{Goal}
use Rattle.book.specs.declared.verdict.Verdict.{Verdict}
use Rattle.book.specs.Places.{is_place_of}
use Rattle.text.specs.declared.fault.Fault.{Fault}
use Rattle.text.specs.Continue.{KeptOk}
use Rattle.text.specs.Written.{answer, filled}
use Rattle.judge.specs.declared.fault.JudgeFault.TheVariants.{Reading as Paper}
use Rattle.sheet.specs.Kind.{Kind}
use Rattle.book.specs.Goals.{GoalPlan, read_paper}
use Rattle.book.specs.Judgings.{kind_of, ByKind}
use Rattle.book.specs.Written.{told}
use Rattle.book.specs.Writing.{quotes_text}
use Rattle.book.specs.Quotes.{standing, no_quotes, quote_at, lowered, smaller}

-- ---- open

-- the chain that a text says
abbrev pub Says : List ℕ → Option Chain → Type 0
Says text None = ⊥
Says text (Some c) = read_chain text ≡ Ok (plan_of c)

-- a chain stood, and it is the same as the new one
abbrev pub stood_same : Option Chain → Option Chain → Bool
stood_same (Some old) (Some new) = same_chain (relays_of new) (streams_of new) (relays_of old) (streams_of old)
stood_same (Some old) None = false
stood_same None new = false

-- the book b was opened with a text, kept or withdrew its quotes, and is the book c now
pub record Opened (b : Book) (text : List ℕ) (kept : Bool) (c : Book) : Type 0 where
  pub room : b.edits < 1000000
  pub says : Says text c.chain
  pub told : kept ≡ stood_same b.chain c.chain
  pub quotes : standing c.quotes ≡ cond kept (standing b.quotes) no_quotes
  pub counted : c.edits ≡ b.edits + 1

-- why opening b with a text is refused: first the edits, then the text, then the want of memory
abbrev pub NotOpened : Book → List ℕ → BookFault → Type 0
NotOpened b text EditsExhausted = b.edits ≡ 1000000
NotOpened b text (Reading f) = (b.edits < 1000000) × (read_chain text ≡ Err f)
NotOpened b text OutOfMemory = (b.edits < 1000000) × (is_ok (read_chain text) ≡ true)
NotOpened b text NoChain = ⊥
NotOpened b text EditsMoved = ⊥
NotOpened b text (Judging f) = ⊥
NotOpened b text NamesNothing = ⊥
NotOpened b text MemoryTooShort = ⊥

abbrev pub OpenOutcome : Book → List ℕ → Result Bool BookFault → Book → Type 0
OpenOutcome b text (Ok kept) c = Opened b text kept c
OpenOutcome b text (Err f) c = NotOpened b text f × (c ≡ b)

-- ---- judge

-- a verdict on a goal at a number with a claim, given after so many edits
pub record About (v : Verdict) (p : GoalPlan) (edits : ℕ) : Type 0 where
  pub goal : v.target.goal ≡ p.goal
  pub at : v.target.at ≡ p.at
  pub claim : v.claim ≡ p.claim
  pub counted : v.edits ≡ edits

-- the part of an outcome that is the judge's
abbrev pub JudgedBy : Kind → ℕ → List ℕ → Result Verdict BookFault → List ℤ → List ℤ → Type 0
JudgedBy k scale rest (Ok v) before after = ByKind k scale 3 rest (Ok tt) before after
JudgedBy k scale rest (Err (Judging f)) before after = ByKind k scale 3 rest (Err f) before after
JudgedBy k scale rest (Err EditsExhausted) before after = ⊥
JudgedBy k scale rest (Err NoChain) before after = ⊥
JudgedBy k scale rest (Err EditsMoved) before after = ⊥
JudgedBy k scale rest (Err (Reading f)) before after = ⊥
JudgedBy k scale rest (Err NamesNothing) before after = ⊥
JudgedBy k scale rest (Err MemoryTooShort) before after = ⊥
JudgedBy k scale rest (Err OutOfMemory) before after = ⊥

-- a paper about p with these lines from the third on
pub record JudgedFor (c : Chain) (edits : ℕ) (p : GoalPlan) (rest : List ℕ) (r : Result Verdict BookFault) (before after : List ℤ) : Type 0 where
  pub verdict : KeptOk (λ v. About v p edits) r
  pub lines : JudgedBy (kind_of c p.goal p.at) p.scale rest r before after

abbrev pub VerdictTold : Chain → ℕ → Result (GoalPlan × List ℕ) Fault → Result Verdict BookFault → List ℤ → List ℤ → Type 0
VerdictTold c edits (Ok p) r before after = JudgedFor c edits p.0 p.1 r before after
VerdictTold c edits (Err f) r before after = (r ≡ Err (Judging (Paper f))) × (after ≡ before)

-- without a chain nothing is judged; else the paper is, by the sheet that its goal line names
abbrev pub JudgeOutcome : Option Chain → ℕ → List ℕ → Result Verdict BookFault → List ℤ → List ℤ → Type 0
JudgeOutcome None edits paper r before after = (r ≡ Err NoChain) × (after ≡ before)
JudgeOutcome (Some c) edits paper r before after = VerdictTold c edits (read_paper (length (relays_of c)) paper) r before after

-- ---- enter

abbrev pub enter_answer : Book → Verdict → Result ℕ BookFault
enter_answer b v =
    cond (is_some b.chain)
    (cond (v.edits == b.edits) (Ok (smaller (quote_at (standing b.quotes) v.target.goal v.target.at) v.claim)) (Err EditsMoved))
    (Err NoChain)

pub record Entered (b : Book) (v : Verdict) (quote : ℕ) (c : Book) : Type 0 where
  pub chain : c.chain ≡ b.chain
  pub quotes : standing c.quotes ≡ lowered (standing b.quotes) v.target.goal v.target.at quote
  pub edits : c.edits ≡ b.edits

abbrev pub EnterLeaves : Book → Verdict → Result ℕ BookFault → Book → Type 0
EnterLeaves b v (Ok quote) c = Entered b v quote c
EnterLeaves b v (Err f) c = c ≡ b

-- ---- quote

abbrev pub quote_of : Option Chain → Book → Goal → ℕ → Result (Option ℕ) BookFault
quote_of None b goal at = Err NoChain
quote_of (Some c) b goal at = cond (is_place_of (length (relays_of c)) goal at) (Ok (quote_at (standing b.quotes) goal at)) (Err NamesNothing)

abbrev pub quote_answer : Book → Goal → ℕ → Result (Option ℕ) BookFault
quote_answer b goal at = quote_of b.chain b goal at

-- ---- write quotes

abbrev pub quotes_answer : Book → List ℕ → Result ℕ BookFault
quotes_answer b out = cond (is_some b.chain) (told (answer (quotes_text (standing b.quotes)) out)) (Err NoChain)

abbrev pub quotes_leave : Book → List ℕ → List ℕ
quotes_leave b out = cond (is_some b.chain) (filled (quotes_text (standing b.quotes)) out) out
