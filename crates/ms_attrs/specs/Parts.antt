-- What a token stands for in attributes.
use Rattle.std.specs.Prelude.{ℕ, List, codes, if◌then◌else◌}
use Rattle.std.specs.Str.{bytes_eq}
use Rattle.ms_lex.specs.Kinds.{is_word}
use Rattle.ms_attrs.specs.declared.part.Part.{Part}
use Rattle.ms_attrs.specs.declared.part.Part.TheVariants.{Parenthesis, Bracket, Closing, Comma, Colon, Memory, Nocapture, Captures, Nothing, Read, Write, ReadWrite, Argmem, Inaccessiblemem, Word, Other}

-- a word
unfoldable pub word_part : List ℕ → Part
word_part t =
    if bytes_eq t (codes "memory") then Memory
    else (if bytes_eq t (codes "nocapture") then Nocapture
    else (if bytes_eq t (codes "captures") then Captures
    else (if bytes_eq t (codes "none") then Nothing
    else (if bytes_eq t (codes "read") then Read
    else (if bytes_eq t (codes "write") then Write
    else (if bytes_eq t (codes "readwrite") then ReadWrite
    else (if bytes_eq t (codes "argmem") then Argmem
    else (if bytes_eq t (codes "inaccessiblemem") then Inaccessiblemem
    else Word))))))))

-- any other token
unfoldable pub mark_part : List ℕ → Part
mark_part t =
    if bytes_eq t (codes "(") then Parenthesis
    else (if bytes_eq t (codes "[") then Bracket
    else (if bytes_eq t (codes "{") then Bracket
    else (if bytes_eq t (codes ")") then Closing
    else (if bytes_eq t (codes "]") then Closing
    else (if bytes_eq t (codes "}") then Closing
    else (if bytes_eq t (codes ",") then Comma
    else (if bytes_eq t (codes ":") then Colon
    else Other)))))))

-- a token by its bytes
abbrev pub part_of : List ℕ → Part
part_of t = if is_word t then word_part t else mark_part t
