-- An image: the bytes of a file that is one, and which assembly of the command it is.
use Rattle.std.specs.Prelude.{◌≡◌, ℕ, ◌^◌, ◌<◌, ◌≤◌, List, length, None}
use Rattle.cil_base.specs.Refusals.{first_of}
use Rattle.pe_image.specs.declared.headers.Headers.{Headers}
use Rattle.pe_image.specs.Headers.{Fit, Aligned, headers_of, headers_size, table_end}
use Rattle.pe_image.specs.Rules.{header_tests, section_tests}

pub record File : Type 0 where
  pub bytes : List ℕ
  pub assembly : ℕ

-- The headers stand there, and break no rule.
pub record InOrder (bytes : List ℕ) (a : ℕ) (h : Headers) : Type 0 where
  pub short : length bytes < 2 ^ 32
  pub tests : first_of (header_tests bytes a) ≡ None
  pub headers : h ≡ headers_of bytes
  pub fit : Fit h
  pub aligned : Aligned bytes h
  pub whole : table_end h ≤ length bytes
  pub sections : first_of (section_tests bytes a (headers_size bytes h) (headers_size bytes h) h.sections h.count) ≡ None
