-- The line that a display shows, by what it borrows.
use Rattle.std.specs.Prelude.{ℕ, cond, List, length, nat_lt}
use Rattle.display.specs.declared.line.Line.{Line}
use Rattle.display.specs.declared.line.Source.{Source}
use Rattle.display.specs.declared.line.Source.TheVariants.{Alert, Message}
use Rattle.display.specs.Pieces.{PieceOf, control, text}

-- Bytes of one of the two buffers, and the place where they begin in it.
pub record LineOf : Type 0 where
  pub source : Source
  pub place : ℕ
  pub bytes : List ℕ

-- What a line stands for.
abbrev pub line_view : Line → LineOf
line_view l = record { source = l.source; place = l.part.place; bytes = l.part.bytes.now }

-- A message is shown from its begin.
abbrev pub message_line : List ℕ → LineOf
message_line m = record { source = Message; place = 0; bytes = m }

-- A text piece with at least one byte is shown, and otherwise the message.
abbrev pub line_due : PieceOf → List ℕ → LineOf
line_due (text p) m = cond (nat_lt 0 (length p.bytes)) (record { source = Alert; place = p.place; bytes = p.bytes }) (message_line m)
line_due (control p) m = message_line m
