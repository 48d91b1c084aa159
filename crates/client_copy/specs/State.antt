-- The state of a working copy.
use Rattle.std.specs.Prelude.{ℕ, []}
use Rattle.pad_text.specs.Hash.{document_hash}
use Rattle.pad_model.specs.Base.{first_base}
use Rattle.pad_stroke.specs.Work.{Marked, empty}
use Rattle.client_work.specs.Switch.{SentWorks}
use Rattle.client_copy.specs.Pad.{Pad, begun}

-- `P` stands for the pad, and `W` for the works that were sent: of the machine a pad and a list; in code a chain and a table
pub record State (P W : Type 0) : Type 0 where
  pub pad : P
  pub work : Marked
  pub sent : W
  -- the number given out last to an edit
  pub strokes : ℕ

-- the machine's state: the works that were sent have the newest first
abbrev pub Copy : Type 0
Copy = State Pad SentWorks

-- a new working copy: nothing was received, and there is no work
abbrev pub new_copy : Copy
new_copy = record {
  pad = begun [] first_base;
  work = empty (document_hash first_base.text);
  sent = [];
  strokes = 0;
}
