use Rattle.std.specs.Prelude.{ℕ, ◌-◌, ◌^◌, false, List, [], codes, Some, None}
use Rattle.std.specs.Fmt.{decimal, digits, format_spec, padded_integral}
use Rattle.policy.specs.Refusals as refusals
use Rattle.choices.specs.declared.answer.Answer.{Answer}
use Rattle.choices.specs.declared.answer.Answer.TheVariants.{Key, Chosen}
use Rattle.choices.specs.declared.fault.Fault.{Fault}
use Rattle.choices.specs.declared.fault.Fault.TheVariants.{BadLine, Rows, Refused}

-- a key in hexadecimal, with zeros in front up to 16 digits, as `{:016x}` writes it
abbrev pub sixteen_digits : ℕ → List ℕ
sixteen_digits key = padded_integral (format_spec 32 0 4 16 (2 ^ 64 - 1)) false [] (digits 16 false key)

-- what is written for an answer
abbrev pub answer_words : Answer → List ℕ
answer_words (Key key) = sixteen_digits key
answer_words (Chosen (Some row)) = decimal row
answer_words (Chosen None) = codes "nobody"

-- and for a fault
abbrev pub fault_words : Fault → List ℕ
fault_words BadLine = codes "? bad line"
fault_words Rows = codes "rows refused"
fault_words (Refused e) = refusals.words_of e
