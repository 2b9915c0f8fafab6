-- An answer as one number of 64 bits, for callers in C. Definitions only.
use Rattle.std.specs.Prelude.{cond, ℕ, ◌+◌, ◌*◌, ◌/◌, ◌%◌, ◌^◌, eqb, ltb}
use Rattle.word.specs.Refusal.{bit_number, bit_by, Answer, done, passed, finished, refused}

-- from here on an answer is a refusal
abbrev pub refusal_bit : ℕ
refusal_bit = 2 ^ 63

-- the refusal's number, below 2^8, is counted in these; its place stands below
abbrev pub number_unit : ℕ
number_unit = 2 ^ 32

-- and the bit of refusal 3 in these, above the number
abbrev pub bit_unit : ℕ
bit_unit = 2 ^ 40

-- A count is itself, and a step that is done is 0. No answer loses anything by this: a place and a count are at most 8,192, a bit below 24 (the laws
-- `precheck_unpacked`, `run_unpacked` and `step_unpacked`).
abbrev pub packed : Answer → ℕ
packed done = 0
packed (passed n) = n
packed (finished n) = n
packed (refused number place bit) = refusal_bit + bit_number bit * bit_unit + number * number_unit + place % number_unit

-- the refusal that a caller takes from the number, as include/vintrazzola.h does: number, bit, place
abbrev pub unpacked_number : ℕ → ℕ
unpacked_number x = x / number_unit % (bit_unit / number_unit)

abbrev pub unpacked_bit : ℕ → ℕ
unpacked_bit x = x / bit_unit % (refusal_bit / bit_unit)

abbrev pub unpacked_refusal : ℕ → Answer
unpacked_refusal x = refused (unpacked_number x) (x % number_unit) (bit_by (unpacked_number x) (unpacked_bit x))

-- a count, of a job that passed or that finished, or a refusal
abbrev pub unpacked_count : (ℕ → Answer) → ℕ → Answer
unpacked_count counted x = cond (ltb x refusal_bit) (counted x) (unpacked_refusal x)

-- the answer of the pre-check; of a run; of a step
abbrev pub unpacked_check : ℕ → Answer
unpacked_check x = unpacked_count passed x

abbrev pub unpacked_run : ℕ → Answer
unpacked_run x = unpacked_count finished x

abbrev pub unpacked_step : ℕ → Answer
unpacked_step x = cond (eqb x 0) done (unpacked_refusal x)
