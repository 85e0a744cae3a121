-- Every limit, by its name.
use Rattle.std.specs.Prelude.{ℕ, ◌^◌}

-- addresses are below this, and no width is greater
abbrev pub address_end : ℕ
address_end = 2 ^ 56

-- positions at which an expression is asked are below this, which leaves room to go on from each address
abbrev pub far : ℕ
far = 2 ^ 62

-- numbers of versions, editions and ids are below this
abbrev pub version_end : ℕ
version_end = 2 ^ 63

-- a merge and an opening need a number below this, so that the numbers above are left for adds and deletions
abbrev pub merge_end : ℕ
merge_end = 2 ^ 62

-- how many slots a version has at most, also before the last ones are joined
abbrev pub most_slots : ℕ
most_slots = 32

-- how many slots are left at most once the last ones are joined
abbrev pub most_tiers : ℕ
most_tiers = 28

-- how many bytes a name has at most
abbrev pub most_name : ℕ
most_name = 65536

-- how many bytes a line has at most, without its newline
abbrev pub most_line : ℕ
most_line = 65536

-- how many bytes a file has at most
abbrev pub most_file : ℕ
most_file = 2 ^ 26

-- how many bytes a script has at most
abbrev pub most_script : ℕ
most_script = 2 ^ 32

-- how many quoted texts and widths a query has at most
abbrev pub most_operands : ℕ
most_operands = 256

-- how many brackets of a query are open at once at most
abbrev pub most_brackets : ℕ
most_brackets = 12

-- how many bytes an image has at most
abbrev pub most_image : ℕ
most_image = 2 ^ 30

-- how many queries are answered together at most
abbrev pub most_batch : ℕ
most_batch = 64

-- how many readers a run has at most
abbrev pub most_readers : ℕ
most_readers = 16

-- how many files a made corpus has at most
abbrev pub most_made : ℕ
most_made = 10000
