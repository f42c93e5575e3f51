-- The line that tells of a run that was not done.
use Rattle.std.specs.Prelude.{ℕ, if◌then◌else◌, nat_eq, List, [], ◌++◌, unwrap_or, codes, decimal}
use Rattle.ms_output.specs.declared.refusal.Refusal.{Refusal}
use Rattle.ms_cli.specs.Words.{file_of}
use Rattle.ms_cli.specs.declared.status.Status.{Status}
use Rattle.ms_cli.specs.declared.status.Status.TheVariants.{Done, Refused, Usage, ReadFault, WriteFault, Memory}

unfoldable pub usage_line : List ℕ
usage_line = codes "mssa: usage: mssa --passes=LIST [--edits=FILE] [--stats] [--disable-output] (FILE or --gen=SEED)\n"

unfoldable pub cannot_read : List ℕ
cannot_read = codes "mssa: cannot read "

unfoldable pub cannot_write : List ℕ
cannot_write = codes "mssa: cannot write output\n"

unfoldable pub out_of_memory : List ℕ
out_of_memory = codes "mssa: out of memory\n"

unfoldable pub program_part : List ℕ
program_part = codes "mssa: "

unfoldable pub line_feed : List ℕ
line_feed = codes "\n"

unfoldable pub colon : List ℕ
colon = codes ":"

-- the end of a line that names a line of the file, by the refusal's number
unfoldable pub reason : ℕ → List ℕ
reason number =
    if nat_eq number 2 then codes ": refusal 2: limit passed\n"
    else if nat_eq number 3 then codes ": refusal 3: name\n"
    else if nat_eq number 4 then codes ": refusal 4: type\n"
    else if nat_eq number 5 then codes ": refusal 5: edges\n"
    else if nat_eq number 6 then codes ": refusal 6: order\n"
    else codes ": refusal 1: not of the profile\n"

unfoldable pub irreducible : List ℕ
irreducible = codes ": refusal 7: irreducible loop in @"

unfoldable pub too_long : List ℕ
too_long = codes ": refusal 10: longer than 1048576 bytes\n"

abbrev pub named_file : List (List ℕ) → List ℕ
named_file words = unwrap_or (file_of words) []

-- the line for a file that is refused: its name, and the line or the function where one is told
abbrev pub refused_line : List ℕ → List ℕ → Refusal → List ℕ
refused_line file func r =
    if nat_eq r.number 10 then program_part ++ file ++ too_long
    else if nat_eq r.number 7 then program_part ++ file ++ irreducible ++ func ++ line_feed
    else program_part ++ file ++ colon ++ decimal r.place ++ reason r.number

-- The line for a status, with its end; none where all was done. A refused function is told by its name.
abbrev pub line_for : List (List ℕ) → List ℕ → Status → List ℕ
line_for words func Done = []
line_for words func Usage = usage_line
line_for words func ReadFault = cannot_read ++ named_file words ++ line_feed
line_for words func WriteFault = cannot_write
line_for words func Memory = out_of_memory
line_for words func (Refused r) = refused_line (named_file words) func r
