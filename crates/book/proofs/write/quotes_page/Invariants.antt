use Rattle.std.proofs.Common.{◌≡◌, ◌+◌, ◌*◌, ◌≤◌, length, drop}
use Rattle.text.specs.Written.{on_page, added_to}
use Rattle.book.specs.Quotes.{standing}
use Rattle.book.specs.Writing.{backlog_parts, quotes_text}
use Rattle.book.proofs.write.quotes_page.Given as goal

abbrev pub invariant-loop-i : goal.invariant-loop-i
invariant-loop-i l =
    (added_to (on_page l.page) (backlog_parts (l.i + 1) (drop l.i l.quotes.backlog)) ≡ quotes_text (standing l.quotes))
    × (length (on_page l.page) ≤ 44 + 30 * l.i)
