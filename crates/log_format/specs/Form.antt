-- The forms of log files: their magic and their limits.
use Rattle.std.specs.Prelude.{ℕ, List}
use Rattle.log_format.specs.declared.form.Form.{Form}
use Rattle.log_format.specs.declared.form.Form.TheVariants.{One, Two}
use Rattle.log_format.specs.declared.form.TheConstants.{MAGIC_ONE, MAGIC_TWO, MOST_ENTRIES_ONE, MOST_ENTRIES_TWO, MOST_BYTES_ONE, MOST_BYTES_TWO}

-- the first eight bytes of a file
abbrev pub magic_of : Form → List ℕ
magic_of One = MAGIC_ONE
magic_of Two = MAGIC_TWO

-- the most entries that a log may have
abbrev pub most_entries_of : Form → ℕ
most_entries_of One = MOST_ENTRIES_ONE
most_entries_of Two = MOST_ENTRIES_TWO

-- the most bytes that a file may have
abbrev pub most_bytes_of : Form → ℕ
most_bytes_of One = MOST_BYTES_ONE
most_bytes_of Two = MOST_BYTES_TWO
