use Rattle.std.proofs.Common.{◌≡◌, ℕ, List, length, ℤ, IsErrAnd, Some, None, Ok, Err, Option, Result, sym, refl, subst}
use Rattle.std.specs.Option.{ok_or}
use Rattle.text.specs.declared.fault.Fault.{Fault}
use Rattle.chain.specs.declared.chain.Chain.{Chain}
use Rattle.chain.specs.Views.{relays_of}
use Rattle.judge.specs.declared.fault.JudgeFault.{JudgeFault}
use Rattle.book.specs.declared.aim.Aim.{Aim}
use Rattle.book.specs.declared.fault.BookFault.{BookFault}
use Rattle.book.specs.declared.fault.BookFault.TheVariants.{Judging, NoChain}
use Rattle.book.specs.declared.verdict.Verdict.{Verdict}
use Rattle.book.specs.Books.{JudgedBy, VerdictTold, JudgeOutcome}
use Rattle.book.specs.Goals.{GoalPlan, read_paper}
use Rattle.book.specs.Judgings.{kind_of, AimTold}
use Rattle.book.proofs.book.Book.judge.Goals as goal

-- a refused paper
refused :
    (c : Chain) (edits : ℕ) (s : Result (GoalPlan × List ℕ) Fault) (r : Result Verdict BookFault) (f : JudgeFault) (before after : List ℤ)
    → IsErrAnd r (λ e. e ≡ Judging f) → AimTold c s (Err f) before after → VerdictTold c edits s r before after
refused c edits s (Ok v) f before after h t = absurd h
refused c edits (Ok p) (Err e) f before after h t =
    record { verdict = tt; lines = subst (λ x. JudgedBy (kind_of c p.0.goal p.0.at) p.0.scale p.1 (Err x) before after) (sym h) t.lines }
refused c edits (Err g) (Err e) f before after h t = let told = t.0 in (cc, t.1)

-- a paper that passed
passed :
    (c : Chain) (edits : ℕ) (s : Result (GoalPlan × List ℕ) Fault) (a : Aim) (v : Verdict) (before after : List ℤ)
    → v ≡ record { target = a.target; claim = a.stated.claim; edits = edits } → AimTold c s (Ok a) before after → VerdictTold c edits s (Ok v) before after
passed c edits (Ok p) a v before after e t = let plan = t.aim in record { verdict = record { goal = cc; at = cc; claim = cc; counted = cc }; lines = t.lines }
passed c edits (Err f) a v before after e t = let told = t.0 in absurd (cc)

-- what is told for a chain, on a book that has it
on_book :
    (o : Option Chain) (c : Chain) (edits : ℕ) (paper : List ℕ) (r : Result Verdict BookFault) (before after : List ℤ)
    → Ok c ≡ ok_or o NoChain → VerdictTold c edits (read_paper (length (relays_of c)) paper) r before after → JudgeOutcome o edits paper r before after
on_book None c edits paper r before after e t = absurd (cc)
on_book (Some d) c edits paper r before after e t = let same : c ≡ d = cc in subst (λ x. JudgeOutcome (Some x) edits paper r before after) same t

pub returns-in_err-aim : goal.returns-in_err-aim
returns-in_err-aim c =
    on_book _ _ _ c.args.paper.now _ _ _ c.in_ok-chain.ensures
    (refused _ _ _ _ c.in_err-aim.field-0.0 _ _ c.from_residual-in_err-aim.ensures.1 c.in_err-aim.ensures)

pub returns : goal.returns
returns c = on_book _ _ _ c.args.paper.now _ _ _ c.in_ok-chain.ensures (passed _ _ _ c.in_ok-aim.aim _ _ _ refl c.in_ok-aim.ensures)
