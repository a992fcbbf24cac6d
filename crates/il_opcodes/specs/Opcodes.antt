-- The instructions (ECMA-335, III.3 and III.4): each code, the code of the longest spelling of the same instruction, the operand, how many values are taken and left where the code says so, and what it does.
use Rattle.std.specs.Prelude.{ℕ, Bool, true, false, ◌==◌, List, [], ◌∷◌, Option, Some, None, find, ◌&&◌, pos, negsuc, ◌+◌, ◌-◌, nat_lt, if◌then◌else◌, codes, slice_get}
use Rattle.std.specs.List.{position_or_len}
use Rattle.il_opcodes.specs.declared.opcode.Opcode.{Opcode}
use Rattle.il_opcodes.specs.declared.opcode.OperandKind.{OperandKind}
use Rattle.il_opcodes.specs.declared.opcode.OperandKind.TheVariants as op
use Rattle.il_opcodes.specs.declared.class.Class.{Class}
use Rattle.il_opcodes.specs.declared.class.Class.TheVariants as class
use Rattle.il_opcodes.specs.declared.class.Storage.TheVariants as storage
use Rattle.il_opcodes.specs.declared.class.NumberKind.TheVariants as kind
use Rattle.il_opcodes.specs.declared.class.Bits.TheVariants as bits
use Rattle.il_opcodes.specs.declared.class.BinaryOp.TheVariants as binary
use Rattle.il_opcodes.specs.declared.class.ShiftOp.TheVariants as shift
use Rattle.il_opcodes.specs.declared.class.UnaryOp.TheVariants as unary
use Rattle.il_opcodes.specs.declared.class.Comparison.TheVariants as compare

abbrev pub row : ℕ → ℕ → OperandKind → Option ℕ → Option ℕ → Class → Opcode
row code long operand pops pushes class = record { code = code; long = long; operand = operand; pops = pops; pushes = pushes; class = class }

unfoldable pub the_opcodes : List Opcode
the_opcodes =
    row 0x00 0x00 op.Nothing (Some 0) (Some 0) class.Nop ∷
    row 0x01 0x01 op.Nothing (Some 0) (Some 0) class.Nop ∷
    row 0x02 0xFE09 (op.ThatIndex 0) (Some 0) (Some 1) class.LoadArgument ∷
    row 0x03 0xFE09 (op.ThatIndex 1) (Some 0) (Some 1) class.LoadArgument ∷
    row 0x04 0xFE09 (op.ThatIndex 2) (Some 0) (Some 1) class.LoadArgument ∷
    row 0x05 0xFE09 (op.ThatIndex 3) (Some 0) (Some 1) class.LoadArgument ∷
    row 0x06 0xFE0C (op.ThatIndex 0) (Some 0) (Some 1) class.LoadLocal ∷
    row 0x07 0xFE0C (op.ThatIndex 1) (Some 0) (Some 1) class.LoadLocal ∷
    row 0x08 0xFE0C (op.ThatIndex 2) (Some 0) (Some 1) class.LoadLocal ∷
    row 0x09 0xFE0C (op.ThatIndex 3) (Some 0) (Some 1) class.LoadLocal ∷
    row 0x0A 0xFE0E (op.ThatIndex 0) (Some 1) (Some 0) class.StoreLocal ∷
    row 0x0B 0xFE0E (op.ThatIndex 1) (Some 1) (Some 0) class.StoreLocal ∷
    row 0x0C 0xFE0E (op.ThatIndex 2) (Some 1) (Some 0) class.StoreLocal ∷
    row 0x0D 0xFE0E (op.ThatIndex 3) (Some 1) (Some 0) class.StoreLocal ∷
    row 0x0E 0xFE09 op.Index8 (Some 0) (Some 1) class.LoadArgument ∷
    row 0x0F 0xFE0A op.Index8 (Some 0) (Some 1) class.ArgumentAddress ∷
    row 0x10 0xFE0B op.Index8 (Some 1) (Some 0) class.StoreArgument ∷
    row 0x11 0xFE0C op.Index8 (Some 0) (Some 1) class.LoadLocal ∷
    row 0x12 0xFE0D op.Index8 (Some 0) (Some 1) class.LocalAddress ∷
    row 0x13 0xFE0E op.Index8 (Some 1) (Some 0) class.StoreLocal ∷
    row 0x14 0x14 op.Nothing (Some 0) (Some 1) class.LoadNull ∷
    row 0x15 0x20 (op.ThatInt (negsuc 0)) (Some 0) (Some 1) class.LoadInt ∷
    row 0x16 0x20 (op.ThatInt (pos 0)) (Some 0) (Some 1) class.LoadInt ∷
    row 0x17 0x20 (op.ThatInt (pos 1)) (Some 0) (Some 1) class.LoadInt ∷
    row 0x18 0x20 (op.ThatInt (pos 2)) (Some 0) (Some 1) class.LoadInt ∷
    row 0x19 0x20 (op.ThatInt (pos 3)) (Some 0) (Some 1) class.LoadInt ∷
    row 0x1A 0x20 (op.ThatInt (pos 4)) (Some 0) (Some 1) class.LoadInt ∷
    row 0x1B 0x20 (op.ThatInt (pos 5)) (Some 0) (Some 1) class.LoadInt ∷
    row 0x1C 0x20 (op.ThatInt (pos 6)) (Some 0) (Some 1) class.LoadInt ∷
    row 0x1D 0x20 (op.ThatInt (pos 7)) (Some 0) (Some 1) class.LoadInt ∷
    row 0x1E 0x20 (op.ThatInt (pos 8)) (Some 0) (Some 1) class.LoadInt ∷
    row 0x1F 0x20 op.Int8 (Some 0) (Some 1) class.LoadInt ∷
    row 0x20 0x20 op.Int32 (Some 0) (Some 1) class.LoadInt ∷
    row 0x21 0x21 op.Int64 (Some 0) (Some 1) class.LoadLong ∷
    row 0x22 0x22 op.Int32 (Some 0) (Some 1) class.Unsupported ∷
    row 0x23 0x23 op.Int64 (Some 0) (Some 1) class.Unsupported ∷
    row 0x25 0x25 op.Nothing (Some 1) (Some 2) class.Duplicate ∷
    row 0x26 0x26 op.Nothing (Some 1) (Some 0) class.Pop ∷
    row 0x28 0x28 op.MethodToken None None class.Call ∷
    row 0x2A 0x2A op.Nothing None (Some 0) class.Return ∷
    row 0x2B 0x38 op.Target8 (Some 0) (Some 0) class.Jump ∷
    row 0x2C 0x39 op.Target8 (Some 1) (Some 0) (class.Branch false) ∷
    row 0x2D 0x3A op.Target8 (Some 1) (Some 0) (class.Branch true) ∷
    row 0x2E 0x3B op.Target8 (Some 2) (Some 0) (class.CompareBranch compare.Eq true) ∷
    row 0x2F 0x3C op.Target8 (Some 2) (Some 0) (class.CompareBranch compare.Lt false) ∷
    row 0x30 0x3D op.Target8 (Some 2) (Some 0) (class.CompareBranch compare.Gt true) ∷
    row 0x31 0x3E op.Target8 (Some 2) (Some 0) (class.CompareBranch compare.Gt false) ∷
    row 0x32 0x3F op.Target8 (Some 2) (Some 0) (class.CompareBranch compare.Lt true) ∷
    row 0x33 0x40 op.Target8 (Some 2) (Some 0) (class.CompareBranch compare.Eq false) ∷
    row 0x34 0x41 op.Target8 (Some 2) (Some 0) (class.CompareBranch compare.LtUn false) ∷
    row 0x35 0x42 op.Target8 (Some 2) (Some 0) (class.CompareBranch compare.GtUn true) ∷
    row 0x36 0x43 op.Target8 (Some 2) (Some 0) (class.CompareBranch compare.GtUn false) ∷
    row 0x37 0x44 op.Target8 (Some 2) (Some 0) (class.CompareBranch compare.LtUn true) ∷
    row 0x38 0x38 op.Target32 (Some 0) (Some 0) class.Jump ∷
    row 0x39 0x39 op.Target32 (Some 1) (Some 0) (class.Branch false) ∷
    row 0x3A 0x3A op.Target32 (Some 1) (Some 0) (class.Branch true) ∷
    row 0x3B 0x3B op.Target32 (Some 2) (Some 0) (class.CompareBranch compare.Eq true) ∷
    row 0x3C 0x3C op.Target32 (Some 2) (Some 0) (class.CompareBranch compare.Lt false) ∷
    row 0x3D 0x3D op.Target32 (Some 2) (Some 0) (class.CompareBranch compare.Gt true) ∷
    row 0x3E 0x3E op.Target32 (Some 2) (Some 0) (class.CompareBranch compare.Gt false) ∷
    row 0x3F 0x3F op.Target32 (Some 2) (Some 0) (class.CompareBranch compare.Lt true) ∷
    row 0x40 0x40 op.Target32 (Some 2) (Some 0) (class.CompareBranch compare.Eq false) ∷
    row 0x41 0x41 op.Target32 (Some 2) (Some 0) (class.CompareBranch compare.LtUn false) ∷
    row 0x42 0x42 op.Target32 (Some 2) (Some 0) (class.CompareBranch compare.GtUn true) ∷
    row 0x43 0x43 op.Target32 (Some 2) (Some 0) (class.CompareBranch compare.GtUn false) ∷
    row 0x44 0x44 op.Target32 (Some 2) (Some 0) (class.CompareBranch compare.LtUn true) ∷
    row 0x45 0x45 op.Targets (Some 1) (Some 0) class.Switch ∷
    row 0x46 0x46 op.Nothing (Some 1) (Some 1) (class.LoadIndirect (storage.Truncated bits.B8 true)) ∷
    row 0x47 0x47 op.Nothing (Some 1) (Some 1) (class.LoadIndirect (storage.Truncated bits.B8 false)) ∷
    row 0x48 0x48 op.Nothing (Some 1) (Some 1) (class.LoadIndirect (storage.Truncated bits.B16 true)) ∷
    row 0x49 0x49 op.Nothing (Some 1) (Some 1) (class.LoadIndirect (storage.Truncated bits.B16 false)) ∷
    row 0x4A 0x4A op.Nothing (Some 1) (Some 1) (class.LoadIndirect (storage.Truncated bits.B32 true)) ∷
    row 0x4B 0x4B op.Nothing (Some 1) (Some 1) (class.LoadIndirect (storage.Truncated bits.B32 true)) ∷
    row 0x4C 0x4C op.Nothing (Some 1) (Some 1) (class.LoadIndirect storage.Long) ∷
    row 0x4D 0x4D op.Nothing (Some 1) (Some 1) (class.LoadIndirect storage.NativeInt) ∷
    row 0x4E 0x4E op.Nothing (Some 1) (Some 1) class.Unsupported ∷
    row 0x4F 0x4F op.Nothing (Some 1) (Some 1) class.Unsupported ∷
    row 0x50 0x50 op.Nothing (Some 1) (Some 1) (class.LoadIndirect storage.Reference) ∷
    row 0x51 0x51 op.Nothing (Some 2) (Some 0) (class.StoreIndirect storage.Reference) ∷
    row 0x52 0x52 op.Nothing (Some 2) (Some 0) (class.StoreIndirect (storage.Truncated bits.B8 true)) ∷
    row 0x53 0x53 op.Nothing (Some 2) (Some 0) (class.StoreIndirect (storage.Truncated bits.B16 true)) ∷
    row 0x54 0x54 op.Nothing (Some 2) (Some 0) (class.StoreIndirect (storage.Truncated bits.B32 true)) ∷
    row 0x55 0x55 op.Nothing (Some 2) (Some 0) (class.StoreIndirect storage.Long) ∷
    row 0x56 0x56 op.Nothing (Some 2) (Some 0) class.Unsupported ∷
    row 0x57 0x57 op.Nothing (Some 2) (Some 0) class.Unsupported ∷
    row 0x58 0x58 op.Nothing (Some 2) (Some 1) (class.Binary binary.Add) ∷
    row 0x59 0x59 op.Nothing (Some 2) (Some 1) (class.Binary binary.Sub) ∷
    row 0x5A 0x5A op.Nothing (Some 2) (Some 1) (class.Binary binary.Mul) ∷
    row 0x5B 0x5B op.Nothing (Some 2) (Some 1) (class.Binary binary.Div) ∷
    row 0x5C 0x5C op.Nothing (Some 2) (Some 1) (class.Binary binary.DivUn) ∷
    row 0x5D 0x5D op.Nothing (Some 2) (Some 1) (class.Binary binary.Rem) ∷
    row 0x5E 0x5E op.Nothing (Some 2) (Some 1) (class.Binary binary.RemUn) ∷
    row 0x5F 0x5F op.Nothing (Some 2) (Some 1) (class.Binary binary.And) ∷
    row 0x60 0x60 op.Nothing (Some 2) (Some 1) (class.Binary binary.Or) ∷
    row 0x61 0x61 op.Nothing (Some 2) (Some 1) (class.Binary binary.Xor) ∷
    row 0x62 0x62 op.Nothing (Some 2) (Some 1) (class.Shift shift.Shl) ∷
    row 0x63 0x63 op.Nothing (Some 2) (Some 1) (class.Shift shift.Shr) ∷
    row 0x64 0x64 op.Nothing (Some 2) (Some 1) (class.Shift shift.ShrUn) ∷
    row 0x65 0x65 op.Nothing (Some 1) (Some 1) (class.Unary unary.Neg) ∷
    row 0x66 0x66 op.Nothing (Some 1) (Some 1) (class.Unary unary.Not) ∷
    row 0x67 0x67 op.Nothing (Some 1) (Some 1) (class.Convert (kind.Small bits.B8 true)) ∷
    row 0x68 0x68 op.Nothing (Some 1) (Some 1) (class.Convert (kind.Small bits.B16 true)) ∷
    row 0x69 0x69 op.Nothing (Some 1) (Some 1) (class.Convert (kind.Small bits.B32 true)) ∷
    row 0x6A 0x6A op.Nothing (Some 1) (Some 1) (class.Convert (kind.Wide true)) ∷
    row 0x6B 0x6B op.Nothing (Some 1) (Some 1) class.Unsupported ∷
    row 0x6C 0x6C op.Nothing (Some 1) (Some 1) class.Unsupported ∷
    row 0x6D 0x6D op.Nothing (Some 1) (Some 1) (class.Convert (kind.Small bits.B32 true)) ∷
    row 0x6E 0x6E op.Nothing (Some 1) (Some 1) (class.Convert (kind.Wide false)) ∷
    row 0x6F 0x6F op.MethodToken None None class.CallVirtual ∷
    row 0x70 0x70 op.TypeToken (Some 2) (Some 0) class.CopyObject ∷
    row 0x71 0x71 op.TypeToken (Some 1) (Some 1) class.LoadObject ∷
    row 0x72 0x72 op.StringToken (Some 0) (Some 1) class.LoadString ∷
    row 0x73 0x73 op.MethodToken None None class.NewObject ∷
    row 0x74 0x74 op.TypeToken (Some 1) (Some 1) class.CastClass ∷
    row 0x75 0x75 op.TypeToken (Some 1) (Some 1) class.IsInstance ∷
    row 0x76 0x76 op.Nothing (Some 1) (Some 1) class.Unsupported ∷
    row 0x79 0x79 op.TypeToken (Some 1) (Some 1) class.Unbox ∷
    row 0x7A 0x7A op.Nothing (Some 1) (Some 0) class.Throw ∷
    row 0x7B 0x7B op.FieldToken (Some 1) (Some 1) class.LoadField ∷
    row 0x7C 0x7C op.FieldToken (Some 1) (Some 1) class.FieldAddress ∷
    row 0x7D 0x7D op.FieldToken (Some 2) (Some 0) class.StoreField ∷
    row 0x7E 0x7E op.FieldToken (Some 0) (Some 1) class.LoadStatic ∷
    row 0x7F 0x7F op.FieldToken (Some 0) (Some 1) class.StaticAddress ∷
    row 0x80 0x80 op.FieldToken (Some 1) (Some 0) class.StoreStatic ∷
    row 0x81 0x81 op.TypeToken (Some 2) (Some 0) class.StoreObject ∷
    row 0x82 0x82 op.Nothing (Some 1) (Some 1) (class.ConvertChecked true (kind.Small bits.B8 true)) ∷
    row 0x83 0x83 op.Nothing (Some 1) (Some 1) (class.ConvertChecked true (kind.Small bits.B16 true)) ∷
    row 0x84 0x84 op.Nothing (Some 1) (Some 1) (class.ConvertChecked true (kind.Small bits.B32 true)) ∷
    row 0x85 0x85 op.Nothing (Some 1) (Some 1) (class.ConvertChecked true (kind.Wide true)) ∷
    row 0x86 0x86 op.Nothing (Some 1) (Some 1) (class.ConvertChecked true (kind.Small bits.B8 false)) ∷
    row 0x87 0x87 op.Nothing (Some 1) (Some 1) (class.ConvertChecked true (kind.Small bits.B16 false)) ∷
    row 0x88 0x88 op.Nothing (Some 1) (Some 1) (class.ConvertChecked true (kind.Small bits.B32 false)) ∷
    row 0x89 0x89 op.Nothing (Some 1) (Some 1) (class.ConvertChecked true (kind.Wide false)) ∷
    row 0x8A 0x8A op.Nothing (Some 1) (Some 1) (class.ConvertChecked true (kind.Native true)) ∷
    row 0x8B 0x8B op.Nothing (Some 1) (Some 1) (class.ConvertChecked true (kind.Native false)) ∷
    row 0x8C 0x8C op.TypeToken (Some 1) (Some 1) class.Box ∷
    row 0x8D 0x8D op.TypeToken (Some 1) (Some 1) class.NewArray ∷
    row 0x8E 0x8E op.Nothing (Some 1) (Some 1) class.ArrayLength ∷
    row 0x8F 0x8F op.TypeToken (Some 2) (Some 1) class.ElementAddress ∷
    row 0x90 0x90 op.Nothing (Some 2) (Some 1) (class.LoadElement (storage.Truncated bits.B8 true)) ∷
    row 0x91 0x91 op.Nothing (Some 2) (Some 1) (class.LoadElement (storage.Truncated bits.B8 false)) ∷
    row 0x92 0x92 op.Nothing (Some 2) (Some 1) (class.LoadElement (storage.Truncated bits.B16 true)) ∷
    row 0x93 0x93 op.Nothing (Some 2) (Some 1) (class.LoadElement (storage.Truncated bits.B16 false)) ∷
    row 0x94 0x94 op.Nothing (Some 2) (Some 1) (class.LoadElement (storage.Truncated bits.B32 true)) ∷
    row 0x95 0x95 op.Nothing (Some 2) (Some 1) (class.LoadElement (storage.Truncated bits.B32 true)) ∷
    row 0x96 0x96 op.Nothing (Some 2) (Some 1) (class.LoadElement storage.Long) ∷
    row 0x97 0x97 op.Nothing (Some 2) (Some 1) (class.LoadElement storage.NativeInt) ∷
    row 0x98 0x98 op.Nothing (Some 2) (Some 1) class.Unsupported ∷
    row 0x99 0x99 op.Nothing (Some 2) (Some 1) class.Unsupported ∷
    row 0x9A 0x9A op.Nothing (Some 2) (Some 1) (class.LoadElement storage.Reference) ∷
    row 0x9B 0x9B op.Nothing (Some 3) (Some 0) (class.StoreElement storage.NativeInt) ∷
    row 0x9C 0x9C op.Nothing (Some 3) (Some 0) (class.StoreElement (storage.Truncated bits.B8 true)) ∷
    row 0x9D 0x9D op.Nothing (Some 3) (Some 0) (class.StoreElement (storage.Truncated bits.B16 true)) ∷
    row 0x9E 0x9E op.Nothing (Some 3) (Some 0) (class.StoreElement (storage.Truncated bits.B32 true)) ∷
    row 0x9F 0x9F op.Nothing (Some 3) (Some 0) (class.StoreElement storage.Long) ∷
    row 0xA0 0xA0 op.Nothing (Some 3) (Some 0) class.Unsupported ∷
    row 0xA1 0xA1 op.Nothing (Some 3) (Some 0) class.Unsupported ∷
    row 0xA2 0xA2 op.Nothing (Some 3) (Some 0) (class.StoreElement storage.Reference) ∷
    row 0xA3 0xA3 op.TypeToken (Some 2) (Some 1) class.LoadTypedElement ∷
    row 0xA4 0xA4 op.TypeToken (Some 3) (Some 0) class.StoreTypedElement ∷
    row 0xA5 0xA5 op.TypeToken (Some 1) (Some 1) class.UnboxAny ∷
    row 0xB3 0xB3 op.Nothing (Some 1) (Some 1) (class.ConvertChecked false (kind.Small bits.B8 true)) ∷
    row 0xB4 0xB4 op.Nothing (Some 1) (Some 1) (class.ConvertChecked false (kind.Small bits.B8 false)) ∷
    row 0xB5 0xB5 op.Nothing (Some 1) (Some 1) (class.ConvertChecked false (kind.Small bits.B16 true)) ∷
    row 0xB6 0xB6 op.Nothing (Some 1) (Some 1) (class.ConvertChecked false (kind.Small bits.B16 false)) ∷
    row 0xB7 0xB7 op.Nothing (Some 1) (Some 1) (class.ConvertChecked false (kind.Small bits.B32 true)) ∷
    row 0xB8 0xB8 op.Nothing (Some 1) (Some 1) (class.ConvertChecked false (kind.Small bits.B32 false)) ∷
    row 0xB9 0xB9 op.Nothing (Some 1) (Some 1) (class.ConvertChecked false (kind.Wide true)) ∷
    row 0xBA 0xBA op.Nothing (Some 1) (Some 1) (class.ConvertChecked false (kind.Wide false)) ∷
    row 0xC3 0xC3 op.Nothing (Some 1) (Some 1) class.Unsupported ∷
    row 0xD0 0xD0 op.AnyToken (Some 0) (Some 1) class.LoadToken ∷
    row 0xD1 0xD1 op.Nothing (Some 1) (Some 1) (class.Convert (kind.Small bits.B16 false)) ∷
    row 0xD2 0xD2 op.Nothing (Some 1) (Some 1) (class.Convert (kind.Small bits.B8 false)) ∷
    row 0xD3 0xD3 op.Nothing (Some 1) (Some 1) (class.Convert (kind.Native true)) ∷
    row 0xD4 0xD4 op.Nothing (Some 1) (Some 1) (class.ConvertChecked false (kind.Native true)) ∷
    row 0xD5 0xD5 op.Nothing (Some 1) (Some 1) (class.ConvertChecked false (kind.Native false)) ∷
    row 0xD6 0xD6 op.Nothing (Some 2) (Some 1) (class.Binary binary.AddOvf) ∷
    row 0xD7 0xD7 op.Nothing (Some 2) (Some 1) (class.Binary binary.AddOvfUn) ∷
    row 0xD8 0xD8 op.Nothing (Some 2) (Some 1) (class.Binary binary.MulOvf) ∷
    row 0xD9 0xD9 op.Nothing (Some 2) (Some 1) (class.Binary binary.MulOvfUn) ∷
    row 0xDA 0xDA op.Nothing (Some 2) (Some 1) (class.Binary binary.SubOvf) ∷
    row 0xDB 0xDB op.Nothing (Some 2) (Some 1) (class.Binary binary.SubOvfUn) ∷
    row 0xDC 0xDC op.Nothing (Some 0) (Some 0) class.EndFinally ∷
    row 0xDD 0xDD op.Target32 (Some 0) (Some 0) class.Leave ∷
    row 0xDE 0xDD op.Target8 (Some 0) (Some 0) class.Leave ∷
    row 0xDF 0xDF op.Nothing (Some 2) (Some 0) (class.StoreIndirect storage.NativeInt) ∷
    row 0xE0 0xE0 op.Nothing (Some 1) (Some 1) (class.Convert (kind.Native false)) ∷
    row 0xFE01 0xFE01 op.Nothing (Some 2) (Some 1) (class.Compare compare.Eq) ∷
    row 0xFE02 0xFE02 op.Nothing (Some 2) (Some 1) (class.Compare compare.Gt) ∷
    row 0xFE03 0xFE03 op.Nothing (Some 2) (Some 1) (class.Compare compare.GtUn) ∷
    row 0xFE04 0xFE04 op.Nothing (Some 2) (Some 1) (class.Compare compare.Lt) ∷
    row 0xFE05 0xFE05 op.Nothing (Some 2) (Some 1) (class.Compare compare.LtUn) ∷
    row 0xFE06 0xFE06 op.MethodToken (Some 0) (Some 1) class.LoadFunction ∷
    row 0xFE07 0xFE07 op.MethodToken (Some 1) (Some 1) class.LoadVirtualFunction ∷
    row 0xFE09 0xFE09 op.Index16 (Some 0) (Some 1) class.LoadArgument ∷
    row 0xFE0A 0xFE0A op.Index16 (Some 0) (Some 1) class.ArgumentAddress ∷
    row 0xFE0B 0xFE0B op.Index16 (Some 1) (Some 0) class.StoreArgument ∷
    row 0xFE0C 0xFE0C op.Index16 (Some 0) (Some 1) class.LoadLocal ∷
    row 0xFE0D 0xFE0D op.Index16 (Some 0) (Some 1) class.LocalAddress ∷
    row 0xFE0E 0xFE0E op.Index16 (Some 1) (Some 0) class.StoreLocal ∷
    row 0xFE13 0xFE13 (op.Flag 1) (Some 0) (Some 0) class.Prefix ∷
    row 0xFE14 0xFE14 (op.Flag 2) (Some 0) (Some 0) class.Prefix ∷
    row 0xFE15 0xFE15 op.TypeToken (Some 1) (Some 0) class.InitObject ∷
    row 0xFE16 0xFE16 op.Constrained (Some 0) (Some 0) class.Prefix ∷
    row 0xFE1A 0xFE1A op.Nothing (Some 0) (Some 0) class.Rethrow ∷
    row 0xFE1C 0xFE1C op.TypeToken (Some 0) (Some 1) class.SizeOf ∷
    row 0xFE1E 0xFE1E (op.Flag 4) (Some 0) (Some 0) class.Prefix ∷ []

-- the instruction of a code, or nothing for a code that is left out
unfoldable pub opcode_of : ℕ → Option Opcode
unfolding the_opcodes
opcode_of code = find (λ o. o.code == code) the_opcodes

abbrev pub class_or : Option Opcode → Class
class_or None = class.Unsupported
class_or (Some o) = o.class

-- what the instruction of a code does; a code that is left out does nothing that is run
unfoldable pub class_of : ℕ → Class
class_of code = class_or (opcode_of code)

abbrev pub is_long : ℕ → Option Opcode → Bool
is_long long None = false
is_long long (Some o) = (o.code == long) && (o.long == long)

abbrev pub has_code : ℕ → Option Opcode → Bool
has_code code None = false
has_code code (Some o) = o.code == code

-- It is found by its code, and its longest spelling is one of the instructions.
abbrev pub is_regular : Opcode → Bool
is_regular o = has_code o.code (opcode_of o.code) && is_long o.long (opcode_of o.long)

-- the slots below 0x100 are the codes of one byte, and those from there on the codes of two
abbrev pub code_of_slot : ℕ → ℕ
code_of_slot slot = if nat_lt slot 0x100 then slot else (slot - 0x100) + 0xFE00

-- the index of each of these codes in the table, or the number of instructions
unfoldable pub the_indexes : List ℕ
the_indexes =
    0 ∷ 1 ∷ 2 ∷ 3 ∷ 4 ∷ 5 ∷ 6 ∷ 7 ∷ 8 ∷ 9 ∷ 10 ∷ 11 ∷ 12 ∷ 13 ∷ 14 ∷ 15 ∷
    16 ∷ 17 ∷ 18 ∷ 19 ∷ 20 ∷ 21 ∷ 22 ∷ 23 ∷ 24 ∷ 25 ∷ 26 ∷ 27 ∷ 28 ∷ 29 ∷ 30 ∷ 31 ∷
    32 ∷ 33 ∷ 34 ∷ 35 ∷ 207 ∷ 36 ∷ 37 ∷ 207 ∷ 38 ∷ 207 ∷ 39 ∷ 40 ∷ 41 ∷ 42 ∷ 43 ∷ 44 ∷
    45 ∷ 46 ∷ 47 ∷ 48 ∷ 49 ∷ 50 ∷ 51 ∷ 52 ∷ 53 ∷ 54 ∷ 55 ∷ 56 ∷ 57 ∷ 58 ∷ 59 ∷ 60 ∷
    61 ∷ 62 ∷ 63 ∷ 64 ∷ 65 ∷ 66 ∷ 67 ∷ 68 ∷ 69 ∷ 70 ∷ 71 ∷ 72 ∷ 73 ∷ 74 ∷ 75 ∷ 76 ∷
    77 ∷ 78 ∷ 79 ∷ 80 ∷ 81 ∷ 82 ∷ 83 ∷ 84 ∷ 85 ∷ 86 ∷ 87 ∷ 88 ∷ 89 ∷ 90 ∷ 91 ∷ 92 ∷
    93 ∷ 94 ∷ 95 ∷ 96 ∷ 97 ∷ 98 ∷ 99 ∷ 100 ∷ 101 ∷ 102 ∷ 103 ∷ 104 ∷ 105 ∷ 106 ∷ 107 ∷ 108 ∷
    109 ∷ 110 ∷ 111 ∷ 112 ∷ 113 ∷ 114 ∷ 115 ∷ 207 ∷ 207 ∷ 116 ∷ 117 ∷ 118 ∷ 119 ∷ 120 ∷ 121 ∷ 122 ∷
    123 ∷ 124 ∷ 125 ∷ 126 ∷ 127 ∷ 128 ∷ 129 ∷ 130 ∷ 131 ∷ 132 ∷ 133 ∷ 134 ∷ 135 ∷ 136 ∷ 137 ∷ 138 ∷
    139 ∷ 140 ∷ 141 ∷ 142 ∷ 143 ∷ 144 ∷ 145 ∷ 146 ∷ 147 ∷ 148 ∷ 149 ∷ 150 ∷ 151 ∷ 152 ∷ 153 ∷ 154 ∷
    155 ∷ 156 ∷ 157 ∷ 158 ∷ 159 ∷ 160 ∷ 207 ∷ 207 ∷ 207 ∷ 207 ∷ 207 ∷ 207 ∷ 207 ∷ 207 ∷ 207 ∷ 207 ∷
    207 ∷ 207 ∷ 207 ∷ 161 ∷ 162 ∷ 163 ∷ 164 ∷ 165 ∷ 166 ∷ 167 ∷ 168 ∷ 207 ∷ 207 ∷ 207 ∷ 207 ∷ 207 ∷
    207 ∷ 207 ∷ 207 ∷ 169 ∷ 207 ∷ 207 ∷ 207 ∷ 207 ∷ 207 ∷ 207 ∷ 207 ∷ 207 ∷ 207 ∷ 207 ∷ 207 ∷ 207 ∷
    170 ∷ 171 ∷ 172 ∷ 173 ∷ 174 ∷ 175 ∷ 176 ∷ 177 ∷ 178 ∷ 179 ∷ 180 ∷ 181 ∷ 182 ∷ 183 ∷ 184 ∷ 185 ∷
    186 ∷ 207 ∷ 207 ∷ 207 ∷ 207 ∷ 207 ∷ 207 ∷ 207 ∷ 207 ∷ 207 ∷ 207 ∷ 207 ∷ 207 ∷ 207 ∷ 207 ∷ 207 ∷
    207 ∷ 207 ∷ 207 ∷ 207 ∷ 207 ∷ 207 ∷ 207 ∷ 207 ∷ 207 ∷ 207 ∷ 207 ∷ 207 ∷ 207 ∷ 207 ∷ 207 ∷ 207 ∷
    207 ∷ 187 ∷ 188 ∷ 189 ∷ 190 ∷ 191 ∷ 192 ∷ 193 ∷ 207 ∷ 194 ∷ 195 ∷ 196 ∷ 197 ∷ 198 ∷ 199 ∷ 207 ∷
    207 ∷ 207 ∷ 207 ∷ 200 ∷ 201 ∷ 202 ∷ 203 ∷ 207 ∷ 207 ∷ 207 ∷ 204 ∷ 207 ∷ 205 ∷ 207 ∷ 206 ∷ 207 ∷ []

-- the index of a code in the table, or the number of instructions for a code that is left out
unfoldable pub index_of : ℕ → ℕ
unfolding the_opcodes
index_of code = position_or_len (λ (o : Opcode). o.code == code) the_opcodes

-- the mnemonics of the instructions, in the order of the table
unfoldable pub the_mnemonics : List (List ℕ)
the_mnemonics =
    codes "nop" ∷ codes "break" ∷ codes "ldarg.0" ∷ codes "ldarg.1" ∷ codes "ldarg.2" ∷ codes "ldarg.3" ∷ codes "ldloc.0" ∷ codes "ldloc.1" ∷
    codes "ldloc.2" ∷ codes "ldloc.3" ∷ codes "stloc.0" ∷ codes "stloc.1" ∷ codes "stloc.2" ∷ codes "stloc.3" ∷ codes "ldarg.s" ∷ codes "ldarga.s" ∷
    codes "starg.s" ∷ codes "ldloc.s" ∷ codes "ldloca.s" ∷ codes "stloc.s" ∷ codes "ldnull" ∷ codes "ldc.i4.m1" ∷ codes "ldc.i4.0" ∷ codes "ldc.i4.1" ∷
    codes "ldc.i4.2" ∷ codes "ldc.i4.3" ∷ codes "ldc.i4.4" ∷ codes "ldc.i4.5" ∷ codes "ldc.i4.6" ∷ codes "ldc.i4.7" ∷ codes "ldc.i4.8" ∷ codes "ldc.i4.s" ∷
    codes "ldc.i4" ∷ codes "ldc.i8" ∷ codes "ldc.r4" ∷ codes "ldc.r8" ∷ codes "dup" ∷ codes "pop" ∷ codes "call" ∷ codes "ret" ∷
    codes "br.s" ∷ codes "brfalse.s" ∷ codes "brtrue.s" ∷ codes "beq.s" ∷ codes "bge.s" ∷ codes "bgt.s" ∷ codes "ble.s" ∷ codes "blt.s" ∷
    codes "bne.un.s" ∷ codes "bge.un.s" ∷ codes "bgt.un.s" ∷ codes "ble.un.s" ∷ codes "blt.un.s" ∷ codes "br" ∷ codes "brfalse" ∷ codes "brtrue" ∷
    codes "beq" ∷ codes "bge" ∷ codes "bgt" ∷ codes "ble" ∷ codes "blt" ∷ codes "bne.un" ∷ codes "bge.un" ∷ codes "bgt.un" ∷
    codes "ble.un" ∷ codes "blt.un" ∷ codes "switch" ∷ codes "ldind.i1" ∷ codes "ldind.u1" ∷ codes "ldind.i2" ∷ codes "ldind.u2" ∷ codes "ldind.i4" ∷
    codes "ldind.u4" ∷ codes "ldind.i8" ∷ codes "ldind.i" ∷ codes "ldind.r4" ∷ codes "ldind.r8" ∷ codes "ldind.ref" ∷ codes "stind.ref" ∷ codes "stind.i1" ∷
    codes "stind.i2" ∷ codes "stind.i4" ∷ codes "stind.i8" ∷ codes "stind.r4" ∷ codes "stind.r8" ∷ codes "add" ∷ codes "sub" ∷ codes "mul" ∷
    codes "div" ∷ codes "div.un" ∷ codes "rem" ∷ codes "rem.un" ∷ codes "and" ∷ codes "or" ∷ codes "xor" ∷ codes "shl" ∷
    codes "shr" ∷ codes "shr.un" ∷ codes "neg" ∷ codes "not" ∷ codes "conv.i1" ∷ codes "conv.i2" ∷ codes "conv.i4" ∷ codes "conv.i8" ∷
    codes "conv.r4" ∷ codes "conv.r8" ∷ codes "conv.u4" ∷ codes "conv.u8" ∷ codes "callvirt" ∷ codes "cpobj" ∷ codes "ldobj" ∷ codes "ldstr" ∷
    codes "newobj" ∷ codes "castclass" ∷ codes "isinst" ∷ codes "conv.r.un" ∷ codes "unbox" ∷ codes "throw" ∷ codes "ldfld" ∷ codes "ldflda" ∷
    codes "stfld" ∷ codes "ldsfld" ∷ codes "ldsflda" ∷ codes "stsfld" ∷ codes "stobj" ∷ codes "conv.ovf.i1.un" ∷ codes "conv.ovf.i2.un" ∷ codes "conv.ovf.i4.un" ∷
    codes "conv.ovf.i8.un" ∷ codes "conv.ovf.u1.un" ∷ codes "conv.ovf.u2.un" ∷ codes "conv.ovf.u4.un" ∷ codes "conv.ovf.u8.un" ∷ codes "conv.ovf.i.un" ∷ codes "conv.ovf.u.un" ∷ codes "box" ∷
    codes "newarr" ∷ codes "ldlen" ∷ codes "ldelema" ∷ codes "ldelem.i1" ∷ codes "ldelem.u1" ∷ codes "ldelem.i2" ∷ codes "ldelem.u2" ∷ codes "ldelem.i4" ∷
    codes "ldelem.u4" ∷ codes "ldelem.i8" ∷ codes "ldelem.i" ∷ codes "ldelem.r4" ∷ codes "ldelem.r8" ∷ codes "ldelem.ref" ∷ codes "stelem.i" ∷ codes "stelem.i1" ∷
    codes "stelem.i2" ∷ codes "stelem.i4" ∷ codes "stelem.i8" ∷ codes "stelem.r4" ∷ codes "stelem.r8" ∷ codes "stelem.ref" ∷ codes "ldelem" ∷ codes "stelem" ∷
    codes "unbox.any" ∷ codes "conv.ovf.i1" ∷ codes "conv.ovf.u1" ∷ codes "conv.ovf.i2" ∷ codes "conv.ovf.u2" ∷ codes "conv.ovf.i4" ∷ codes "conv.ovf.u4" ∷ codes "conv.ovf.i8" ∷
    codes "conv.ovf.u8" ∷ codes "ckfinite" ∷ codes "ldtoken" ∷ codes "conv.u2" ∷ codes "conv.u1" ∷ codes "conv.i" ∷ codes "conv.ovf.i" ∷ codes "conv.ovf.u" ∷
    codes "add.ovf" ∷ codes "add.ovf.un" ∷ codes "mul.ovf" ∷ codes "mul.ovf.un" ∷ codes "sub.ovf" ∷ codes "sub.ovf.un" ∷ codes "endfinally" ∷ codes "leave" ∷
    codes "leave.s" ∷ codes "stind.i" ∷ codes "conv.u" ∷ codes "ceq" ∷ codes "cgt" ∷ codes "cgt.un" ∷ codes "clt" ∷ codes "clt.un" ∷
    codes "ldftn" ∷ codes "ldvirtftn" ∷ codes "ldarg" ∷ codes "ldarga" ∷ codes "starg" ∷ codes "ldloc" ∷ codes "ldloca" ∷ codes "stloc" ∷
    codes "volatile." ∷ codes "tail." ∷ codes "initobj" ∷ codes "constrained." ∷ codes "rethrow" ∷ codes "sizeof" ∷ codes "readonly." ∷ []

-- the mnemonic of a code
unfoldable pub mnemonic_of : ℕ → Option (List ℕ)
mnemonic_of code = slice_get the_mnemonics (index_of code)

-- the index of the first spelling of an instruction, by the code of its longest one
unfoldable pub first_spelling : ℕ → ℕ
unfolding the_opcodes
first_spelling code = position_or_len (λ (o : Opcode). o.long == code) the_opcodes

-- the same for each slot
unfoldable pub the_first_spellings : List ℕ
the_first_spellings =
    0 ∷ 1 ∷ 207 ∷ 207 ∷ 207 ∷ 207 ∷ 207 ∷ 207 ∷ 207 ∷ 207 ∷ 207 ∷ 207 ∷ 207 ∷ 207 ∷ 207 ∷ 207 ∷
    207 ∷ 207 ∷ 207 ∷ 207 ∷ 20 ∷ 207 ∷ 207 ∷ 207 ∷ 207 ∷ 207 ∷ 207 ∷ 207 ∷ 207 ∷ 207 ∷ 207 ∷ 207 ∷
    21 ∷ 33 ∷ 34 ∷ 35 ∷ 207 ∷ 36 ∷ 37 ∷ 207 ∷ 38 ∷ 207 ∷ 39 ∷ 207 ∷ 207 ∷ 207 ∷ 207 ∷ 207 ∷
    207 ∷ 207 ∷ 207 ∷ 207 ∷ 207 ∷ 207 ∷ 207 ∷ 207 ∷ 40 ∷ 41 ∷ 42 ∷ 43 ∷ 44 ∷ 45 ∷ 46 ∷ 47 ∷
    48 ∷ 49 ∷ 50 ∷ 51 ∷ 52 ∷ 66 ∷ 67 ∷ 68 ∷ 69 ∷ 70 ∷ 71 ∷ 72 ∷ 73 ∷ 74 ∷ 75 ∷ 76 ∷
    77 ∷ 78 ∷ 79 ∷ 80 ∷ 81 ∷ 82 ∷ 83 ∷ 84 ∷ 85 ∷ 86 ∷ 87 ∷ 88 ∷ 89 ∷ 90 ∷ 91 ∷ 92 ∷
    93 ∷ 94 ∷ 95 ∷ 96 ∷ 97 ∷ 98 ∷ 99 ∷ 100 ∷ 101 ∷ 102 ∷ 103 ∷ 104 ∷ 105 ∷ 106 ∷ 107 ∷ 108 ∷
    109 ∷ 110 ∷ 111 ∷ 112 ∷ 113 ∷ 114 ∷ 115 ∷ 207 ∷ 207 ∷ 116 ∷ 117 ∷ 118 ∷ 119 ∷ 120 ∷ 121 ∷ 122 ∷
    123 ∷ 124 ∷ 125 ∷ 126 ∷ 127 ∷ 128 ∷ 129 ∷ 130 ∷ 131 ∷ 132 ∷ 133 ∷ 134 ∷ 135 ∷ 136 ∷ 137 ∷ 138 ∷
    139 ∷ 140 ∷ 141 ∷ 142 ∷ 143 ∷ 144 ∷ 145 ∷ 146 ∷ 147 ∷ 148 ∷ 149 ∷ 150 ∷ 151 ∷ 152 ∷ 153 ∷ 154 ∷
    155 ∷ 156 ∷ 157 ∷ 158 ∷ 159 ∷ 160 ∷ 207 ∷ 207 ∷ 207 ∷ 207 ∷ 207 ∷ 207 ∷ 207 ∷ 207 ∷ 207 ∷ 207 ∷
    207 ∷ 207 ∷ 207 ∷ 161 ∷ 162 ∷ 163 ∷ 164 ∷ 165 ∷ 166 ∷ 167 ∷ 168 ∷ 207 ∷ 207 ∷ 207 ∷ 207 ∷ 207 ∷
    207 ∷ 207 ∷ 207 ∷ 169 ∷ 207 ∷ 207 ∷ 207 ∷ 207 ∷ 207 ∷ 207 ∷ 207 ∷ 207 ∷ 207 ∷ 207 ∷ 207 ∷ 207 ∷
    170 ∷ 171 ∷ 172 ∷ 173 ∷ 174 ∷ 175 ∷ 176 ∷ 177 ∷ 178 ∷ 179 ∷ 180 ∷ 181 ∷ 182 ∷ 183 ∷ 207 ∷ 185 ∷
    186 ∷ 207 ∷ 207 ∷ 207 ∷ 207 ∷ 207 ∷ 207 ∷ 207 ∷ 207 ∷ 207 ∷ 207 ∷ 207 ∷ 207 ∷ 207 ∷ 207 ∷ 207 ∷
    207 ∷ 207 ∷ 207 ∷ 207 ∷ 207 ∷ 207 ∷ 207 ∷ 207 ∷ 207 ∷ 207 ∷ 207 ∷ 207 ∷ 207 ∷ 207 ∷ 207 ∷ 207 ∷
    207 ∷ 187 ∷ 188 ∷ 189 ∷ 190 ∷ 191 ∷ 192 ∷ 193 ∷ 207 ∷ 2 ∷ 15 ∷ 16 ∷ 6 ∷ 18 ∷ 10 ∷ 207 ∷
    207 ∷ 207 ∷ 207 ∷ 200 ∷ 201 ∷ 202 ∷ 203 ∷ 207 ∷ 207 ∷ 207 ∷ 204 ∷ 207 ∷ 205 ∷ 207 ∷ 206 ∷ 207 ∷ []
