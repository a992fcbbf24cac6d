-- The tables and their columns (ECMA-335, II.22), and the coded indexes (II.24.2.6).
use Rattle.std.specs.Prelude.{ℕ, List, [], ◌∷◌, get_or, Option, Some, None}
use Rattle.cli_tables.specs.declared.schema.CodedIndex.{CodedIndex}
use Rattle.cli_tables.specs.declared.schema.CodedIndex.TheVariants.{TypeDefOrRef, HasConstant, HasCustomAttribute, HasFieldMarshal, HasDeclSecurity, MemberRefParent, HasSemantics, MethodDefOrRef, MemberForwarded, Implementation, CustomAttributeType, ResolutionScope, TypeOrMethodDef}
use Rattle.cli_tables.specs.declared.schema.Column.{Column}
use Rattle.cli_tables.specs.declared.schema.Column.TheVariants.{U8, U16, U32, StringIndex, GuidIndex, BlobIndex, Row, FirstRow, Coded}

-- the columns of each table, by rising number
unfoldable pub the_tables : List (List Column)
the_tables =
    -- 00 Module
    (U16 ∷ StringIndex ∷ GuidIndex ∷ GuidIndex ∷ GuidIndex ∷ []) ∷
    -- 01 TypeRef
    ((Coded ResolutionScope) ∷ StringIndex ∷ StringIndex ∷ []) ∷
    -- 02 TypeDef
    (U32 ∷ StringIndex ∷ StringIndex ∷ (Coded TypeDefOrRef) ∷ (FirstRow 0x04) ∷ (FirstRow 0x06) ∷ []) ∷
    -- 03 is not read
    ([]) ∷
    -- 04 Field
    (U16 ∷ StringIndex ∷ BlobIndex ∷ []) ∷
    -- 05 is not read
    ([]) ∷
    -- 06 MethodDef
    (U32 ∷ U16 ∷ U16 ∷ StringIndex ∷ BlobIndex ∷ (FirstRow 0x08) ∷ []) ∷
    -- 07 is not read
    ([]) ∷
    -- 08 Param
    (U16 ∷ U16 ∷ StringIndex ∷ []) ∷
    -- 09 InterfaceImpl
    ((Row 0x02) ∷ (Coded TypeDefOrRef) ∷ []) ∷
    -- 0A MemberRef
    ((Coded MemberRefParent) ∷ StringIndex ∷ BlobIndex ∷ []) ∷
    -- 0B Constant
    (U8 ∷ U8 ∷ (Coded HasConstant) ∷ BlobIndex ∷ []) ∷
    -- 0C CustomAttribute
    ((Coded HasCustomAttribute) ∷ (Coded CustomAttributeType) ∷ BlobIndex ∷ []) ∷
    -- 0D FieldMarshal
    ((Coded HasFieldMarshal) ∷ BlobIndex ∷ []) ∷
    -- 0E DeclSecurity
    (U16 ∷ (Coded HasDeclSecurity) ∷ BlobIndex ∷ []) ∷
    -- 0F ClassLayout
    (U16 ∷ U32 ∷ (Row 0x02) ∷ []) ∷
    -- 10 FieldLayout
    (U32 ∷ (Row 0x04) ∷ []) ∷
    -- 11 StandAloneSig
    (BlobIndex ∷ []) ∷
    -- 12 EventMap
    ((Row 0x02) ∷ (FirstRow 0x14) ∷ []) ∷
    -- 13 is not read
    ([]) ∷
    -- 14 Event
    (U16 ∷ StringIndex ∷ (Coded TypeDefOrRef) ∷ []) ∷
    -- 15 PropertyMap
    ((Row 0x02) ∷ (FirstRow 0x17) ∷ []) ∷
    -- 16 is not read
    ([]) ∷
    -- 17 Property
    (U16 ∷ StringIndex ∷ BlobIndex ∷ []) ∷
    -- 18 MethodSemantics
    (U16 ∷ (Row 0x06) ∷ (Coded HasSemantics) ∷ []) ∷
    -- 19 MethodImpl
    ((Row 0x02) ∷ (Coded MethodDefOrRef) ∷ (Coded MethodDefOrRef) ∷ []) ∷
    -- 1A ModuleRef
    (StringIndex ∷ []) ∷
    -- 1B TypeSpec
    (BlobIndex ∷ []) ∷
    -- 1C ImplMap
    (U16 ∷ (Coded MemberForwarded) ∷ StringIndex ∷ (Row 0x1A) ∷ []) ∷
    -- 1D FieldRVA
    (U32 ∷ (Row 0x04) ∷ []) ∷
    -- 1E is not read
    ([]) ∷
    -- 1F is not read
    ([]) ∷
    -- 20 Assembly
    (U32 ∷ U16 ∷ U16 ∷ U16 ∷ U16 ∷ U32 ∷ BlobIndex ∷ StringIndex ∷ StringIndex ∷ []) ∷
    -- 21 AssemblyProcessor
    (U32 ∷ []) ∷
    -- 22 AssemblyOS
    (U32 ∷ U32 ∷ U32 ∷ []) ∷
    -- 23 AssemblyRef
    (U16 ∷ U16 ∷ U16 ∷ U16 ∷ U32 ∷ BlobIndex ∷ StringIndex ∷ StringIndex ∷ BlobIndex ∷ []) ∷
    -- 24 AssemblyRefProcessor
    (U32 ∷ (Row 0x23) ∷ []) ∷
    -- 25 AssemblyRefOS
    (U32 ∷ U32 ∷ U32 ∷ (Row 0x23) ∷ []) ∷
    -- 26 File
    (U32 ∷ StringIndex ∷ BlobIndex ∷ []) ∷
    -- 27 ExportedType
    (U32 ∷ U32 ∷ StringIndex ∷ StringIndex ∷ (Coded Implementation) ∷ []) ∷
    -- 28 ManifestResource
    (U32 ∷ U32 ∷ StringIndex ∷ (Coded Implementation) ∷ []) ∷
    -- 29 NestedClass
    ((Row 0x02) ∷ (Row 0x02) ∷ []) ∷
    -- 2A GenericParam
    (U16 ∷ U16 ∷ (Coded TypeOrMethodDef) ∷ StringIndex ∷ []) ∷
    -- 2B MethodSpec
    ((Coded MethodDefOrRef) ∷ BlobIndex ∷ []) ∷
    -- 2C GenericParamConstraint
    ((Row 0x2A) ∷ (Coded TypeDefOrRef) ∷ []) ∷ []

-- none where the table is not read
abbrev pub columns_of : ℕ → List Column
columns_of table = get_or the_tables table []

-- the tables of a coded index, by rising tag
abbrev pub coded_tables : CodedIndex → List (Option ℕ)
coded_tables TypeDefOrRef = Some 0x02 ∷ Some 0x01 ∷ Some 0x1B ∷ []
coded_tables HasConstant = Some 0x04 ∷ Some 0x08 ∷ Some 0x17 ∷ []
coded_tables HasCustomAttribute = Some 0x06 ∷ Some 0x04 ∷ Some 0x01 ∷ Some 0x02 ∷ Some 0x08 ∷ Some 0x09 ∷ Some 0x0A ∷ Some 0x00 ∷ Some 0x0E ∷ Some 0x17 ∷ Some 0x14 ∷ Some 0x11 ∷ Some 0x1A ∷ Some 0x1B ∷ Some 0x20 ∷ Some 0x23 ∷ Some 0x26 ∷ Some 0x27 ∷ Some 0x28 ∷ Some 0x2A ∷ Some 0x2C ∷ Some 0x2B ∷ []
coded_tables HasFieldMarshal = Some 0x04 ∷ Some 0x08 ∷ []
coded_tables HasDeclSecurity = Some 0x02 ∷ Some 0x06 ∷ Some 0x20 ∷ []
coded_tables MemberRefParent = Some 0x02 ∷ Some 0x01 ∷ Some 0x1A ∷ Some 0x06 ∷ Some 0x1B ∷ []
coded_tables HasSemantics = Some 0x14 ∷ Some 0x17 ∷ []
coded_tables MethodDefOrRef = Some 0x06 ∷ Some 0x0A ∷ []
coded_tables MemberForwarded = Some 0x04 ∷ Some 0x06 ∷ []
coded_tables Implementation = Some 0x26 ∷ Some 0x23 ∷ Some 0x27 ∷ []
coded_tables CustomAttributeType = None ∷ None ∷ Some 0x06 ∷ Some 0x0A ∷ None ∷ []
coded_tables ResolutionScope = Some 0x00 ∷ Some 0x1A ∷ Some 0x23 ∷ Some 0x01 ∷ []
coded_tables TypeOrMethodDef = Some 0x02 ∷ Some 0x06 ∷ []

-- how many low bits the tag takes
abbrev pub tag_bits : CodedIndex → ℕ
tag_bits TypeDefOrRef = 2
tag_bits HasConstant = 2
tag_bits HasCustomAttribute = 5
tag_bits HasFieldMarshal = 1
tag_bits HasDeclSecurity = 2
tag_bits MemberRefParent = 3
tag_bits HasSemantics = 1
tag_bits MethodDefOrRef = 1
tag_bits MemberForwarded = 1
tag_bits Implementation = 2
tag_bits CustomAttributeType = 3
tag_bits ResolutionScope = 2
tag_bits TypeOrMethodDef = 1

-- None where the tag is unused
abbrev pub table_of_tag : CodedIndex → ℕ → Option ℕ
table_of_tag coded tag = get_or (coded_tables coded) tag None
