-- The pieces of an alert, by what they borrow.
use Rattle.std.specs.Prelude.{ℕ, ◌*◌, List, length, take, drop, Ok, Err, Result}
use Rattle.pdu.specs.declared.refusal.Refusal.{Refusal}
use Rattle.family.specs.Meaning.{unless}
use Rattle.alert.specs.declared.alert.AlertHead.{AlertHead}
use Rattle.alert.specs.Alert.{alert_refusal}
use Rattle.display.specs.declared.piece.Part.{Part}
use Rattle.display.specs.declared.piece.Piece.{Piece}
use Rattle.display.specs.declared.piece.Piece.TheVariants.{Control, Text}

-- Bytes, and the place in a buffer where they begin.
pub record PartOf : Type 0 where
  pub place : ℕ
  pub bytes : List ℕ

-- A piece is control data or text.
pub data PieceOf : Type 0 where
  control : PartOf → PieceOf
  text : PartOf → PieceOf

-- What a part, a piece and an answer with two pieces stand for.
abbrev pub part_view : Part → PartOf
part_view p = record { place = p.place; bytes = p.bytes.now }

abbrev pub piece_view : Piece → PieceOf
piece_view (Control p) = control (part_view p)
piece_view (Text p) = text (part_view p)

abbrev pub pieces_view : Result (Piece × Piece) Refusal → Result (PieceOf × PieceOf) Refusal
pieces_view (Ok p) = Ok (piece_view p.0, piece_view p.1)
pieces_view (Err e) = Err e

-- The control data is the first pairs of bytes, as many as the head says, and the text is the rest.
abbrev pub pieces_of : ℕ → List ℕ → PieceOf × PieceOf
pieces_of k t = (control (record { place = 0; bytes = take (2 * k) t }), text (record { place = 2 * k; bytes = drop (2 * k) t }))

-- Bytes that are no lawful alert with this head are refused as that alert is.
abbrev pub pieces_due : AlertHead → List ℕ → Result (PieceOf × PieceOf) Refusal
pieces_due h t = unless (alert_refusal h (length t)) (Ok (pieces_of h.control_length t))
