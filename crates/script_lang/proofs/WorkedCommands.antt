-- Commands, worked out. Names are left to tests: what is UTF-8 does not compute here.
use Rattle.std.proofs.Common.{◌≡◌, [], ◌∷◌, ◌++◌, refl, codes, Some, None}
use Rattle.script_lang.specs.Numbers.{number_of}
use Rattle.script_lang.specs.Commands.{command_of}
use Rattle.script_lang.specs.declared.commands.Command.TheVariants.{Blank, Del, Find, Count, Top, Files, Merge, Shards, Watch, Unwatch, Wrong}

number-leading_zeros : number_of (codes "007") ≡ Some 7
number-leading_zeros = refl

number-longest : number_of (codes "999999999999999999") ≡ Some 999999999999999999
number-longest = refl

number-too_long : number_of (codes "0000000000000000000") ≡ None
number-too_long = refl

blank : command_of [] ≡ Blank
blank = refl

del : command_of (codes "del   12") ≡ Del 12
del = refl

del-no_number : command_of (codes "del 1 2") ≡ Wrong
del-no_number = refl

find-query : command_of (codes "find" ++ 9 ∷ codes "\"to\"..\"be\"") ≡ Find (codes "\"to\"..\"be\"")
find-query = refl

find-nothing : command_of (codes "find") ≡ Find []
find-nothing = refl

-- the word ends at a blank and nowhere else
find-no_blank : command_of (codes "find\"to\"") ≡ Wrong
find-no_blank = refl

count-query : command_of (codes "count [3]") ≡ Count (codes "[3]")
count-query = refl

top-query : command_of (codes "top 02  [3] ") ≡ Top 2 (codes "[3] ")
top-query = refl

top-nothing : command_of (codes "top 2") ≡ Top 2 []
top-nothing = refl

top-no_number : command_of (codes "top [3]") ≡ Wrong
top-no_number = refl

files : command_of (codes "files") ≡ Files
files = refl

files-argument : command_of (codes "files x") ≡ Wrong
files-argument = refl

merge : command_of (codes "merge") ≡ Merge
merge = refl

shards : command_of (codes "shards") ≡ Shards
shards = refl

watch-query : command_of (codes "watch \"or\"") ≡ Watch (codes "\"or\"")
watch-query = refl

watch-nothing : command_of (codes "watch") ≡ Watch []
watch-nothing = refl

unwatch : command_of (codes "unwatch 007") ≡ Unwatch 7
unwatch = refl

unwatch-no_number : command_of (codes "unwatch x") ≡ Wrong
unwatch-no_number = refl

-- a command is in lower case
upper_case : command_of (codes "FILES") ≡ Wrong
upper_case = refl
