-- What a module keeps.
use Rattle.std.specs.Prelude.{◌≡◌, ℕ, List, Option}
use Rattle.oc_bytes.specs.Numbers.{IsBytes}
use Rattle.biop_object.specs.Objects.{Object}
use Rattle.biop_object.specs.ObjectReading.{index_of}

-- the objects, and where reading stopped, are the reading of the bytes
pub record IsIndexed (bytes : List ℕ) (objects : List Object) (stop : Option ℕ) : Type 0 where
  pub fit : IsBytes bytes
  pub index : (objects, stop) ≡ index_of bytes
