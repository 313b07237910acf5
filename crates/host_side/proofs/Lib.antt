mod NoPath
