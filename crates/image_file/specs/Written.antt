-- What the writer goes through, for this crate alone.
use Rattle.std.specs.Prelude.{◌≡◌, ℕ, ◌+◌, ◌-◌, ◌^◌, ◌<◌, ◌≤◌, List, [], ◌∷◌, length, flat_map}
use Rattle.posting_code.specs.Numbers.{number_end}
use Rattle.gcl_model.specs.Limits.{address_end}
use Rattle.address_space.specs.Runs.{FileEntry}
use Rattle.index_shard.specs.Tables.{TermEntry}
use Rattle.live_version.specs.Contents.{VersionContent, live_of}
use Rattle.image_file.specs.declared.format.Format.TheVariants.{Two}
use Rattle.image_file.specs.Fields.{term_bytes}
use Rattle.image_file.specs.Images.{AreShort, AreTermsOf}

-- the file has at least these id and address, and each of its numbers can be packed
pub record CanPack (least at : ℕ) (file : FileEntry) : Type 0 where
  pub id : least ≤ file.id
  pub small : file.id < number_end
  pub base : at ≤ file.base
  pub end : file.base + file.len ≤ address_end
  pub len : 2 ≤ file.len
  pub name : length file.name < 2 ^ 32

-- so do all files, each after the one before it
abbrev pub ArePacked : ℕ → ℕ → List FileEntry → Type 0
ArePacked id at [] = Unit {0}
ArePacked id at (file ∷ files) = CanPack id at file × ArePacked (file.id + 1) (file.base + file.len) files

-- each number of the file has room in its field of version 1
pub record FitsLong (file : FileEntry) : Type 0 where
  pub id : file.id < 2 ^ 64
  pub base : file.base < 2 ^ 64
  pub len : file.len < 2 ^ 64
  pub name : length file.name < 2 ^ 32

-- and in version 2, after these id and address
pub record FitsShort (least at : ℕ) (file : FileEntry) : Type 0 where
  pub least_id : least ≤ file.id
  pub id : file.id - least < number_end
  pub least_base : at ≤ file.base
  pub base : file.base - at < number_end
  pub least_len : 2 ≤ file.len
  pub len : file.len - 2 < number_end
  pub name : length file.name < number_end

-- the bytes are the spelling of this number of terms, which are those of the version's words
pub record IsTextOf (v : VersionContent) (number : ℕ) (text : List ℕ) (table : List TermEntry) : Type 0 where
  pub terms : AreTermsOf (live_of v.slots) table
  pub short : AreShort Two table
  pub count : number ≡ length table
  pub bytes : text ≡ flat_map (term_bytes Two v.first) table

-- the same of some table
abbrev pub IsTermText : VersionContent → ℕ → List ℕ → Type 0
IsTermText v number text = (table : List TermEntry) × IsTextOf v number text table
